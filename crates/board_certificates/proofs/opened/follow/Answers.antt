use Rattle.std.specs.Option.{option_map}
use Rattle.board_certificates.specs.Posed.{posed_of}
use Rattle.board_certificates.proofs.ReplayLemmas.{elsewhere, request_elsewhere, request_opens_nothing}
use Rattle.mds_board.specs.Stored.{shown_entry}
use Rattle.board_certificates.proofs.opened.follow.Goals as goal

pub returns-in_default : goal.returns-in_default
returns-in_default c = record {
  posed = λ s h. request_opens_nothing s (option_map posed_of c.args.last) c.args.kept c.in_default.not-Other;
  replayed = λ s h free. elsewhere s c.args.replay.now (shown_entry c.args.kept).change (request_elsewhere c.args.kept c.in_default.not-Other) h;
}
