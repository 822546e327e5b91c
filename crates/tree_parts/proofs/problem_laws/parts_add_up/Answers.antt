use Rattle.tree_parts.proofs.TopsOfParts.{heats_add_up, inodes_add_up}
use Rattle.tree_parts.proofs.problem_laws.parts_add_up.Goals as goal

pub returns : goal.returns
returns c = record {
  heats = λ rows dirs plan forest parts. heats_add_up rows dirs plan forest parts;
  inodes = λ rows dirs plan forest parts. inodes_add_up rows dirs plan forest parts;
}
