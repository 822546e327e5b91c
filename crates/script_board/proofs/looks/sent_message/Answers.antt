use Rattle.std.proofs.Common.{◌≡◌, ◌∙◌, Option, None, sym, ap}
use Rattle.std.specs.Prelude.{slice_get, unwrap_or}
use Rattle.std.proofs.lemmas.Option.{unwrap_or-slice_get}
use Rattle.export_protocol.specs.Cluster.{World as Exports}
use Rattle.export_protocol.specs.declared.message.Message.{Message}
use Rattle.export_protocol.specs.declared.message.Message.TheVariants.{Discover}
use Rattle.script_board.proofs.looks.sent_message.Goals as goal

pub returns-in-None : goal.returns-in-None
returns-in-None g c =
    let none : None ≡ slice_get c.args.board.now.state.cluster.sent c.args.message = sym c.in-None.is
    ∙ (c.message.ensures ∙ ap (λ (w : Exports). slice_get w.sent c.args.message) c.cluster.ensures) in
    ap (λ (o : Option Message). unwrap_or o (Discover 0)) none ∙ unwrap_or-slice_get c.args.board.now.state.cluster.sent c.args.message (Discover 0)
