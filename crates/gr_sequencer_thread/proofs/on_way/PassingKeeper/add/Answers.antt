use Rattle.gr_model.proofs.Common.{rules, ◌≡◌, ◌∙◌, ◌<◌, ◌∷◌, ◌++◌, [], ap, arith, get_or, length, set, sym, subst, get_or-map, length-map, map-set}
use Rattle.gr_model.specs.Prelude.{worker_number}
use Rattle.gr_clocks.specs.ClockedAccess.{clocked}
use Rattle.gr_route.specs.declared.work.Work.TheVariants.{Access}
use Rattle.gr_threads.specs.Given.{accesses_in}
use Rattle.gr_threads.proofs.Givens.{more_given}
use Rattle.gr_sequencer_thread.specs.Feeds.{AreSplit, accesses_on_way, given_of}
use Rattle.gr_sequencer_thread.proofs.StepLemmas.{split_more, worker_below}
use Rattle.gr_sequencer_thread.proofs.on_way.PassingKeeper.add.Goals as goal

pub index_mut-requires : goal.index_mut-requires
index_mut-requires g c =
    let len : length c.kept.inside.ways.items ≡ c.kept.inside.ways.len = search rules in
    let config = c.workers.ensures.config in
    let below = worker_below c.in_ok-owned.owned.word c.workers.result (let some = config.workers.0 in omega (arith, some, c.workers.ensures.number)) in
    omega (arith, below, c.from-worker.ensures, c.way_of.ensures, c.workers.ensures.number, config.workers.1, len, c.kept.invariant)

pub returns : goal.returns
returns g c accesses split =
    let x = c.in_ok-owned.owned in
    let workers = c.args.self.now.config.workers in
    let given = given_of c.args.self.now.outlets.value.items in
    let ways = c.kept.inside.ways.items in
    let at = c.from-worker.result in
    let way = c.index_mut.result.now in
    let to : at ≡ worker_number x.word workers = c.from-worker.ensures ∙ (c.way_of.ensures ∙ ap (λ n. worker_number x.word n) c.workers.ensures.number) in
    let config = c.workers.ensures.config in
    let below : worker_number x.word workers < workers = worker_below x.word workers (let some = config.workers.0 in omega (arith, some)) in
    let within : at < length ways = omega (arith, to, below, config.workers.1, c.kept.invariant) in
    let now : accesses_on_way (set ways at c.add.new.self) ≡ set (accesses_on_way ways) at (accesses_in way ++ clocked x ∷ []) =
    map-set accesses_in ways at c.add.new.self ∙ ap (set (accesses_on_way ways) at) (ap accesses_in c.in_ok-add.ensures ∙ more_given way (Access x ∷ [])) in
    let mine : accesses_in way ≡ get_or (accesses_on_way ways) at (accesses_in way) = sym (get_or-map accesses_in ways at way (accesses_in way) within ∙ ap accesses_in (sym c.index_mut.ensures.value)) in
    let all = subst (AreSplit workers given (accesses ++ clocked x ∷ [])) (sym now)
    (split_more workers given accesses (accesses_on_way ways) (clocked x) at to (let n = length-map ways accesses_in in omega (arith, within, n)) (accesses_in way) mine
    (subst (AreSplit workers given accesses) (sym c.kept.view_is) split)) in
    rw c.in_ok-owned.ensures at all
