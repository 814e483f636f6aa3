use Rattle.gr_model.proofs.Common.{◌≡◌, All, arith, true, false, ⊎_elim, cases_Bool, slice_index_or}
use Rattle.gr_taking.specs.Taken.{read_by}
use Rattle.gr_explain.specs.Accesses.{AreBothThere}
use Rattle.gr_explain.proofs.KeptLemmas.{both_kept, there_kept}
use Rattle.gr_explain.proofs.accesses.accesses_of_pairs.Goals as goal

pub returns : goal.returns
returns g c p d lt =
    let s = read_by (g.R.Reading.read_as c.args.reading) c.args.traces.now in
    let wanted = c.in_ok-wanted.wanted.keys in
    let kept = c.follow_until.new.kept.entries in
    let races = c.args.races.now in
    let all = c.in_ok-follow_until.field-0 in
    let told = c.in_ok-follow_until.ensures in
    ⊎_elim
    (λ (is : all ≡ true). let along = told.whole is in both_kept s wanted kept along.order along.whole along.accesses along.are along.stands (slice_index_or races p d) (c.in_ok-wanted.ensures p d lt))
    (λ (stopped : all ≡ false).
    let along = told.some in
    let enough = told.enough stopped in
    let there : All (AreBothThere kept) races = rw (← enough.shows) (grind (arith, enough.says.met)) in
    there_kept s wanted kept along.order along.lawful along.accesses along.are along.stands (slice_index_or races p d) (c.in_ok-wanted.ensures p d lt) (there p d lt))
    (cases_Bool all)
