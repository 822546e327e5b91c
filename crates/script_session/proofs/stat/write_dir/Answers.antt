use Rattle.std.proofs.Common.{◌≡◌, ◌++◌, [], ◌∷◌, ℕ, List, append_assoc}
use Rattle.std.specs.Prelude.{codes}
use Rattle.script_session.proofs.stat.write_dir.Goals as goal

-- what is before the path, the path, and what is after it
joined_line : (n path pin rank heat hits writes : List ℕ) → (([] ++ (codes "dir " ++ (n ++ (codes " " ++ [])))) ++ path)
    ++ (codes " pin " ++ (pin ++ (codes " rank " ++ (rank ++ (codes " heat " ++ (heat ++ (codes " hits " ++ (hits
    ++ (codes " writes " ++ (writes ++ 10 ∷ []))))))))))
    ≡ codes "dir " ++ n ++ codes " " ++ path ++ codes " pin " ++ pin ++ codes " rank " ++ rank ++ codes " heat " ++ heat
    ++ codes " hits " ++ hits ++ codes " writes " ++ writes ++ 10 ∷ []
joined_line n path pin rank heat hits writes = simp append_assoc

pub returns : goal.returns
returns c =
    rw (c.in_ok-push_str-3.ensures.bytes, c.in_ok-push_str-2.ensures.bytes, c.in_ok-push_str.ensures.bytes, c.clear.ensures.bytes)
    (rw (c.text.ensures, c.text-2.ensures, c.put-2.ensures.text, c.put_number.ensures.text, c.number.ensures, c.put.ensures.text)
    (rw (c.new-front.ensures, c.put_facts.ensures) (joined_line _ _ _ _ _ _ _)))
