use Rattle.gr_model.proofs.Common.{rules, ◌≡◌, ◌∙◌, List, [], ◌∷◌, drop, slice_get, ap, refl}
use Rattle.gr_model.specs.declared.event.Event.{Event}
use Rattle.gr_windows.specs.Windows.{window_of}
use Rattle.gr_sequencer_tests.proofs.facts.pop_first_of_two.Goals as goal

-- the first of the others is the second
second : (xs : List Event) → slice_get (drop 1 xs) 0 ≡ slice_get xs 1
second [] = refl
second (x ∷ xs) = refl

pub prove-unreachable-requires : goal.prove-unreachable-requires
prove-unreachable-requires g c =
    let same : slice_get (window_of c.pop_first.new.self c.args.item) 0 ≡ slice_get (window_of c.args.windows.now c.args.item) 1 = ap (λ (w : List Event). slice_get w 0) c.pop_first.ensures.item ∙ second (window_of c.args.windows.now c.args.item) in
    search rules
