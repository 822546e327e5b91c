-- What changes leave of a board, and how their refusals are spelled.
use Rattle.std.proofs.Common.{◌≡◌, ℕ, List, refl, Some, Ok, Err}
use Rattle.mds_board.specs.declared.change.Change.TheVariants.{Make}
use Rattle.script_board.specs.declared.fault.Fault.{Fault}
use Rattle.script_board.specs.Board.{BoardData}
use Rattle.script_board.specs.Commands.{find, last_slash, make_dir, parent_path, replanned}

-- where the parent is found, making a directory is making a child
pub made_below : (b : BoardData) (text above name : List ℕ) (parent inodes : ℕ) → last_slash text ≡ Some (above, name) → find b (parent_path above) ≡ Ok parent
    → make_dir b text inodes ≡ replanned b (Make parent name inodes)
made_below b text above name parent inodes cut found = rw (cut, found) refl

pub refused_below : (b : BoardData) (text above name : List ℕ) (inodes : ℕ) (e : Fault) → last_slash text ≡ Some (above, name)
    → find b (parent_path above) ≡ Err e → make_dir b text inodes ≡ Err e
refused_below b text above name inodes e cut found = rw (cut, found) refl
