use Rattle.gr_model.proofs.Common.{Some, sym, ap, ◌∙◌, is_some, on_ok_weaker, on_err_weaker}
use Rattle.std.specs.Option.{option_copied_mut}
use Rattle.std.proofs.lemmas.Map.Steps.{set_value_same}
use Rattle.gr_shadow.specs.Lent.{lent_clocked}
use Rattle.gr_shadow.proofs.MapLemmas.{after_update}
use Rattle.gr_shadow.proofs.shadows.Shadows.note.Goals as goal

pub returns-in-Some-clause-kept : goal.returns-in-Some-clause-kept
returns-in-Some-clause-kept g c =
    let found = sym c.get_mut.ensures.value ∙ ap option_copied_mut c.in-Some.is in
    let update = ((c.get_mut.follows.holds c.add.new.self).3 (ap is_some found)).0 in
    rw (← c.self.view_is) (on_ok_weaker c.add.result (λ after. after_update c.self.inside.words.entries (lent_clocked c.args.access.now) c.add.new.self (c.get_mut.follows.lender c.add.new.self).entries (rw found after) update) c.add.ensures.shadow)

pub returns-in-Some-clause-hit : goal.returns-in-Some-clause-hit
returns-in-Some-clause-hit g c =
    let found = sym c.get_mut.ensures.value ∙ ap option_copied_mut c.in-Some.is in
    rw (← c.self.view_is, found) c.add.ensures.hit

pub returns-in-Some-clause-err : goal.returns-in-Some-clause-err
returns-in-Some-clause-err g c =
    let found = sym c.get_mut.ensures.value ∙ ap option_copied_mut c.in-Some.is in
    on_err_weaker c.add.result (λ same. (c.get_mut.follows.holds c.add.new.self).0 ∙ set_value_same _ _ _ (found ∙ ap Some (sym same)) ∙ c.self.view_is) c.add.ensures.err

pub returns-in_ok-insert-in-None-clause-kept : goal.returns-in_ok-insert-in-None-clause-kept
returns-in_ok-insert-in-None-clause-kept g c =
    let absent = sym c.get_mut.ensures.value ∙ ap option_copied_mut c.in-None.is in
    let after = rw c.new-shadow.ensures at c.in_ok-hit-in-None.ensures.shadow in
    let update = rw c.get_mut.follows.holds-at-none at c.in_ok-insert-in-None.ensures.updates.0 in
    rw (← c.self.view_is) (after_update c.self.inside.words.entries (lent_clocked c.args.access.now) c.add-in-None.new.self c.insert.new.self.entries (rw absent after) update)
