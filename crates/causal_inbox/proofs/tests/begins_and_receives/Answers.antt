use Rattle.causal_inbox.proofs.tests.begins_and_receives.Goals as goal

pub receives-requires-clause-kept : goal.receives-requires-clause-kept
receives-requires-clause-kept c = let compares = rw c.in-Some-default-eq1.is at c.in_ok-inbox.ensures.compares in compares c.push.new.self
