use Rattle.std.proofs.Common.{Some}
use Rattle.dirtree.proofs.TreeFacts.{made_tree, made_length, made_entry}
use Rattle.dirtree.proofs.laws.making_adds_one.Goals as goal

pub returns : goal.returns
returns c = record {
  tree = made_tree;
  numbers = λ t parent name inodes. made_length t.entries (Some (record { parent = parent; name = name; inodes = inodes }));
  entries = λ t parent name inodes d. made_entry t.entries (Some (record { parent = parent; name = name; inodes = inodes })) d;
}
