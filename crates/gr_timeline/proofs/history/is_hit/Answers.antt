use Rattle.gr_timeline.proofs.history.is_hit.Goals as goal

pub returns : goal.returns
returns g c accesses stands =
    let has = rw c.deref.ensures.value at c.has.ensures in
    let exact = (c.in_ok-words.ensures accesses stands).exact c.args.word in
    (λ yes. exact.0 (has.0 yes), λ racy. has.1 (exact.1 racy))
