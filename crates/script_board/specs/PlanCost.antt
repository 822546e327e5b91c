-- The parts of a plan as the parts of a division, which `cost` prints.
use Rattle.tree_parts.specs.declared.division.Part.{Part}
use Rattle.tree_parts.specs.declared.plan_parts.PlanPart.{PlanPart}

-- a part of a plan as the part of a division
abbrev pub without_rank : PlanPart → Part
without_rank part = record { top = part.top; heat = part.heat; inodes = part.inodes }
