use Rattle.gr_model.proofs.Common.{◌≡◌, rules}
use Rattle.gr_shadow.specs.Lent.{lent_clocked}
use Rattle.gr_explain.proofs.SearchLemmas.{access_stands, other_stands}
use Rattle.gr_explain.proofs.search.Search.add.Goals as goal

pub returns-in_ok-put : goal.returns-in_ok-put
returns-in_ok-put g c accesses stands =
    let y = lent_clocked c.args.access.now in
    let same : y.word ≡ c.args.word = search rules in
    rw (← same) (access_stands accesses y c.args.self.now (rw same stands) (record { classes = c.put.new.classes; least = c.least_with-self.result }) (rw c.deref.ensures.value at c.least_with-self.ensures) c.in_ok-put.ensures)

pub returns-else-eq : goal.returns-else-eq
returns-else-eq g c accesses stands = other_stands c.args.word accesses (lent_clocked c.args.access.now) (search rules) c.args.self.now stands
