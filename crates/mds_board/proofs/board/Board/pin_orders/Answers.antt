use Rattle.mds_board.proofs.board.Board.pin_orders.Goals as goal

pub returns : goal.returns
returns g c = rw (← c.self.view_is) c.pin_orders.ensures
