use Rattle.std.proofs.Common.{◌∙◌, ap, sym}
use Rattle.dirtree.specs.Name.{name_bytes}
use Rattle.dirtree.proofs.name.Name.as_str.Goals as goal

pub returns-in-Short : goal.returns-in-Short
unfolding name_bytes
returns-in-Short c = c.as_str.ensures.value ∙ sym (ap name_bytes c.in-Short.is) ∙ c.self.view_is

pub returns-in-Long : goal.returns-in-Long
unfolding name_bytes
returns-in-Long c = c.as_str-in-Long.ensures.value ∙ sym (ap name_bytes c.in-Long.is) ∙ c.self.view_is
