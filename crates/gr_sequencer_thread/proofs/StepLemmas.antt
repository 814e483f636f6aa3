-- What the workers were given, and what is on its way to them, after a step.
use Rattle.gr_model.proofs.Common.{◌≡◌, ◌==◌, ℕ, ◌<◌, List, [], ◌∷◌, ◌++◌, length, get_or, set, get_or-set_other, sym, ap, ◌∙◌, arith, append_assoc, append-nil, IsFalse, mod-lt, All, get_or-map, get_or_default, length-map, length-set, map-set, filter-append, nat_tests, get_or-set_at}
use Rattle.gr_model.specs.declared.event.Word.{Word}
use Rattle.gr_model.specs.declared.event.Word.TheVariants.{Global, Local}
use Rattle.gr_model.specs.Prelude.{worker_number}
use Rattle.gr_clocks.specs.ClockedAccess.{ClockedAccess}
use Rattle.gr_route.specs.declared.work.Work.{Work}
use Rattle.gr_route.specs.WorkRule.{is_stopped}
use Rattle.gr_route.specs.WorkSeats.{Giver}
use Rattle.gr_threads.specs.Given.{accesses_in}
use Rattle.gr_threads.proofs.Givens.{more_given}
use Rattle.gr_clocks.proofs.RowLemmas.{each_set}
use Rattle.gr_sequencer_thread.proofs.Changes.{none_at}
use Rattle.gr_sequencer_thread.specs.Feeds.{AreOpen, AreSplit, accesses_for, accesses_on_way, given_of, towards}

pub worker_below : (w : Word) (workers : ℕ) → 0 < workers → worker_number w workers < workers
worker_below (Global n) workers some = mod-lt n some
worker_below (Local g n) workers some = mod-lt _ some

-- ---- an access more is on its way

module _ (workers : ℕ) (given : List (List ClockedAccess)) (accesses : List ClockedAccess) (on_way : List (List ClockedAccess)) (x : ClockedAccess) (k : ℕ) (to : k ≡ worker_number x.word workers) (there : k < length on_way) (w : List ClockedAccess) (at : w ≡ get_or on_way k w) (split : AreSplit workers given accesses on_way) where
  pub split_more : AreSplit workers given (accesses ++ x ∷ []) (set on_way k (w ++ x ∷ []))
  split_more j lt =
      let more = filter-append (λ (y : ClockedAccess). worker_number y.word workers == j) accesses (x ∷ []) in
      grind (arith, nat_tests, more, to, at, there, split j lt, get_or-set_at, get_or-set_other on_way k j (w ++ x ∷ []) [], get_or_default on_way k [] w there, append_assoc (get_or given k []) w (x ∷ []), append-nil (accesses_for workers j accesses))

-- ---- some are passed on to a worker

module _ {A : Type 0} (givers : List (Giver A)) (ways : List (List (Work A))) (k : ℕ) (there : k < length givers) (o o' : Giver A) (at : o ≡ get_or givers k o) where
  pub still_open : IsFalse (is_stopped o'.pushed) → AreOpen givers → AreOpen (set givers k o')
  still_open unstopped free j d lt = each_set (λ i (u : Giver A). IsFalse (is_stopped u.pushed)) d givers k o' there unstopped j (λ _. free j d (rw (sym (length-set givers k o')) lt))

  module _ (within : k < length ways) (w w' : List (Work A)) (mine : w ≡ get_or ways k w) (moved : o'.pushed ++ w' ≡ o.pushed ++ w) where
    pub same_towards : (j : ℕ) → towards (set givers k o') (set ways k w') j ≡ towards givers ways j
    same_towards j =
        let given : get_or (given_of givers) k [] ≡ accesses_in o.pushed = get_or-map (λ (g : Giver A). accesses_in g.pushed) givers k o [] there ∙ ap (λ (g : Giver A). accesses_in g.pushed) (sym at) in
        let way : get_or (accesses_on_way ways) k [] ≡ accesses_in w = get_or-map accesses_in ways k w [] within ∙ ap accesses_in (sym mine) in
        let moves : accesses_in o'.pushed ++ accesses_in w' ≡ accesses_in o.pushed ++ accesses_in w = sym (more_given o'.pushed w') ∙ (ap accesses_in moved ∙ more_given o.pushed w) in
        grind (arith, given, way, moves, map-set (λ (g : Giver A). accesses_in g.pushed) givers k o', map-set accesses_in ways k w', length-map givers (λ (g : Giver A). accesses_in g.pushed), length-map ways accesses_in, get_or-set_at, get_or-set_other (given_of givers) k j (accesses_in o'.pushed) [], get_or-set_other (accesses_on_way ways) k j (accesses_in w') [])

-- ---- nothing is on its way any more

pub split_whole : (workers : ℕ) (given : List (List ClockedAccess)) (accesses : List ClockedAccess) (on_way : List (List ClockedAccess)) → All (λ l. l ≡ []) on_way → AreSplit workers given accesses on_way → AreSplit workers given accesses []
split_whole workers given accesses on_way none split k lt = split k lt ∙ ap (λ (l : List ClockedAccess). get_or given k [] ++ l) (none_at on_way none k)
