-- Which numbered refusal a request's error is.
use Rattle.mds_types.specs.declared.refusal.Refusal.{Refusal}
use Rattle.mds_types.specs.declared.refusal.Refusal.TheVariants as refusal
use Rattle.mds_board.specs.Refused as of_board
use Rattle.heat_ledger.specs.Refused as of_share
use Rattle.rank_threads.specs.declared.work.WorkError.{WorkError}
use Rattle.rank_threads.specs.declared.work.WorkError.TheVariants as error

abbrev pub refusal_of : WorkError → Refusal
refusal_of (error.Board e) = of_board.refusal_of e
refusal_of (error.Share e) = of_share.refusal_of e
refusal_of error.NoThread = refusal.NoThread
