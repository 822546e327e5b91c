use Rattle.script_session.proofs.session.print.Goals as goal

pub returns-in-Ok-clause-memory : goal.returns-in-Ok-clause-memory
returns-in-Ok-clause-memory g c = rw (c.in-Planned.is, ← c.in-Ok.ensures.parts) c.print_reply.ensures.memory

pub returns-in-Lines-clause-memory : goal.returns-in-Lines-clause-memory
returns-in-Lines-clause-memory g c = rw (c.in-Lines.is) c.print_reply-in-Lines.ensures.memory

pub returns-in-Carried-clause-memory : goal.returns-in-Carried-clause-memory
returns-in-Carried-clause-memory g c = rw (c.in-Carried.is) c.print_reply-in-Carried.ensures.memory
