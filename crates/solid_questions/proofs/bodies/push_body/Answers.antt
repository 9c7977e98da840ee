use Rattle.solid_questions.proofs.bodies.push_body.Goals as goal

pub returns-in-Bounds-clause-body : goal.returns-in-Bounds-clause-body
returns-in-Bounds-clause-body c = rw c.in-Bounds.is c.push_bounds.ensures.ok
