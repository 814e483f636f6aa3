use Rattle.gr_closure.proofs.Growing as lemmas
use Rattle.gr_closure.proofs.hit_laws.accesses_stay.Goals as goal

pub returns : goal.returns
returns c s t order accesses grows lawful are = lemmas.accesses_stay s t grows order accesses lawful are
