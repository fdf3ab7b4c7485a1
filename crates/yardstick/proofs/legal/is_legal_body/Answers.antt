use Rattle.yardstick.proofs.legal.is_legal_body.Goals as goal

pub returns-in-Call : goal.returns-in-Call
returns-in-Call c = rw c.in-Call.is c.is_reply.ensures
