-- What an answer is that is no trouble.
use Rattle.std.proofs.Common.{◌≡◌, Option, None, refl, inl, inr, ◌⊎◌}
use Rattle.pin_driver.specs.Troubles.{state_trouble, store_trouble, get_trouble, set_trouble}
use Rattle.pin_driver.specs.declared.answer.ClusterState.{ClusterState}
use Rattle.pin_driver.specs.declared.answer.FoundPin.{FoundPin}
use Rattle.pin_driver.specs.declared.answer.HostAnswer.{HostAnswer}
use Rattle.pin_driver.specs.declared.answer.HostAnswer.TheVariants as answers
use Rattle.pin_driver.specs.declared.question.Trouble.{Trouble}

pub stored_answer : (a : HostAnswer) → store_trouble a ≡ None → a ≡ answers.Stored
stored_answer answers.Stored e = refl
stored_answer answers.Waited e = absurd cc
stored_answer (answers.Cluster c) e = absurd cc
stored_answer (answers.Found d) e = absurd cc
stored_answer answers.Done e = absurd cc
stored_answer (answers.InPlace b) e = absurd cc
stored_answer answers.Gone e = absurd cc
stored_answer answers.Refused e = absurd cc
stored_answer answers.NoAnswer e = absurd cc
stored_answer answers.Nonsense e = absurd cc

pub set_answer : (a : HostAnswer) → set_trouble a ≡ None → (a ≡ answers.Done) ⊎ (a ≡ answers.Gone)
set_answer answers.Done e = inl refl
set_answer answers.Gone e = inr refl
set_answer answers.Stored e = absurd cc
set_answer answers.Waited e = absurd cc
set_answer (answers.Cluster c) e = absurd cc
set_answer (answers.Found d) e = absurd cc
set_answer (answers.InPlace b) e = absurd cc
set_answer answers.Refused e = absurd cc
set_answer answers.NoAnswer e = absurd cc
set_answer answers.Nonsense e = absurd cc

pub cluster_answer : (first : Option ClusterState) (a : HostAnswer) → state_trouble first a ≡ None → (c : ClusterState) × (a ≡ answers.Cluster c)
cluster_answer first (answers.Cluster c) e = (c, refl)
cluster_answer first answers.Done e = absurd cc
cluster_answer first answers.Gone e = absurd cc
cluster_answer first answers.Stored e = absurd cc
cluster_answer first answers.Waited e = absurd cc
cluster_answer first (answers.Found d) e = absurd cc
cluster_answer first (answers.InPlace b) e = absurd cc
cluster_answer first answers.Refused e = absurd cc
cluster_answer first answers.NoAnswer e = absurd cc
cluster_answer first answers.Nonsense e = absurd cc

pub get_answer : (judge : FoundPin → Option Trouble) (a : HostAnswer) → get_trouble judge a ≡ None →
    (a ≡ answers.Gone) ⊎ ((found : FoundPin) × (a ≡ answers.Found found) × (judge found ≡ None))
get_answer judge (answers.Found d) e = inr (d, refl, e)
get_answer judge answers.Gone e = inl refl
get_answer judge answers.Done e = absurd cc
get_answer judge (answers.Cluster c) e = absurd cc
get_answer judge answers.Stored e = absurd cc
get_answer judge answers.Waited e = absurd cc
get_answer judge (answers.InPlace b) e = absurd cc
get_answer judge answers.Refused e = absurd cc
get_answer judge answers.NoAnswer e = absurd cc
get_answer judge answers.Nonsense e = absurd cc
