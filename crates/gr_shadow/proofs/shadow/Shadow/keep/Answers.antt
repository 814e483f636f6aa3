use Rattle.gr_model.proofs.Common.{◌∷◌, [], ◌++◌, refl, on_ok_weaker}
use Rattle.gr_shadow.specs.Keeps.{all_touches}
use Rattle.gr_shadow.proofs.KeepsLemmas.{Keeps-self, Keeps-first, Keeps-second}
use Rattle.gr_shadow.proofs.shadow.Shadow.keep.Goals as goal

pub returns-then-keep_among-clause-kept : goal.returns-then-keep_among-clause-kept
returns-then-keep_among-clause-kept g c =
    rw (← c.self.view_is) (Keeps-first c.keep_among.new.touches.items c.self.inside.few.items (c.args.touch ∷ []) (all_touches c.self.inside.lists.items) (c.if-keep_among.ensures.kept refl))

pub returns-then-not-is_full-clause-kept : goal.returns-then-not-is_full-clause-kept
returns-then-not-is_full-clause-kept g c =
    let few = c.self.inside.few.items in
    rw (c.push.ensures.items, c.if-keep_among.ensures.other refl, ← c.self.view_is) (Keeps-first (few ++ c.args.touch ∷ []) few (c.args.touch ∷ []) (all_touches c.self.inside.lists.items) (Keeps-self (few ++ c.args.touch ∷ [])))

pub returns-clause-kept : goal.returns-clause-kept
returns-clause-kept g c =
    rw (c.if-keep_among.ensures.other refl, ← c.self.view_is) (on_ok_weaker c.put.result (λ kept. Keeps-second c.self.inside.few.items (all_touches c.put.new.lists.items) (all_touches c.self.inside.lists.items) (c.args.touch ∷ []) kept) c.put.ensures.kept)
