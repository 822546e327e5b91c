use Rattle.std.proofs.Common.{◌≡◌, ◌∙◌, ◌++◌, ◌∷◌, List, ℕ, append_assoc, codes, sym}
use Rattle.std.proofs.lemmas.List.{append_cancel_right}
use Rattle.ceph_dumps.specs.Complete.{line_of}
use Rattle.ceph_dumps.proofs.file_system.read_complete.Goals as goal

-- the newline is the last byte
line_ends : (name fsid : List ℕ) → line_of name fsid ≡ (name ++ 32 ∷ fsid) ++ codes "\n"
line_ends name fsid = sym (append_assoc name (32 ∷ fsid) (codes "\n"))

pub returns-in_default-clause-refused : goal.returns-in_default-clause-refused
returns-in_default-clause-refused c = λ name fsid name_is fsid_is is. c.in_default.ensures (name ++ 32 ∷ fsid) (is ∙ line_ends name fsid)

pub returns-in-None-clause-refused : goal.returns-in-None-clause-refused
returns-in-None-clause-refused c = λ name fsid name_is fsid_is is.
    let line : List ℕ = c.in-Some.line.now in
    let same : line ≡ name ++ 32 ∷ fsid = append_cancel_right line (name ++ 32 ∷ fsid) (codes "\n") (sym c.in-Some.ensures ∙ (is ∙ line_ends name fsid)) in
    (rw c.in-None.is at c.in_ok-found.ensures.words) name fsid (record { whole = same; name_is = name_is; fsid_is = fsid_is })
