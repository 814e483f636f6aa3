-- The pairs of tags that race on a word, where one more access comes.
use Rattle.gr_model.proofs.Common.{◌≡◌, ◌≢◌, ◌⊎◌, ℕ, zero, suc, ◌<◌, Bool, true, false, Contains, List, [], ◌∷◌, ◌++◌, length, get_or, slice_set, Some, None, arith, refl, sym, ap, ◌∙◌, subst, inl, inr, ⊎_elim, list_any, nat_tests, cases_eq, common_steps, get_or-set_other, get_or-set_same, get_or_default, length-set, Contains-append_cases, Contains-append_left, Contains-append_right, Contains-get_or, Contains-push, Contains-push_cases, list_any-append}
use Rattle.std.specs.List.{position}
use Rattle.std.proofs.lemmas.List.Quantifiers.{all_pairs_push}
use Rattle.gr_explain.specs.Types.{EventId, Word, Class, Race, TaggedRace}
use Rattle.gr_explain.specs.declared.tag_pairs.TagPairs.{TagPairs}
use Rattle.gr_clocks.proofs.RowLemmas.{same_item_self}
use Rattle.gr_shadow.specs.Clashes.{ClockedAccess, event_of}
use Rattle.gr_shadow.proofs.KeepsLemmas.{find_is, finds as contains_any}
use Rattle.gr_explain.specs.Alike.{AlikeEvents, IsInPlaceOf, KeepsEvents, are_of_groups, is_sought}
use Rattle.gr_explain.specs.TagPairs.{Finds, IsFound, IsFoundAmong, IsFoundIn, IsKeptIn, IsOfTag, IsTaggedClash, IsPreferred, IsThat, KeepsMore, StandsForTags, has_tags, is_of_tags, is_so}
use Rattle.gr_explain.proofs.AlikeLemmas.{found_none, in_place_of_both, in_place_of_itself, later_clashes, sought}
use Rattle.gr_explain.proofs.ClashLemmas.{IsNewClash, clash_added, clash_was, new_is_of, of_cases, still_of, still_pair}
use Rattle.gr_explain.proofs.Lists.{any_there, set_has, set_still, set_was}

-- ---- tags

-- the place of a value that passes, or none
pub none_at : {X : Type 0} (f : X → Bool) (xs : List X) → position f xs ≡ None → list_any f xs ≡ false
none_at f [] none = refl
none_at f (x ∷ xs) none = grind (arith, none_at f xs)

-- ---- the races of a later access

-- a race stays where the access clashes with none of another group, and else gives way
module _ (y : ClockedAccess) (l : AlikeEvents) (old : Race) where
  pub stays : sought l y true ≡ None → IsPreferred l y old old
  stays none = record { one = inl refl; kept = λ two h. h; whole = λ two e there is. grind (arith, found_none (is_sought true l.class y) l.events e none there) }

  pub gives_way : (e : EventId) (r : Race) → sought l y true ≡ Some e → IsFound e y r → IsPreferred l y old r
  gives_way e r is found = record { one = inr (record { earlier = e; event = there.0; clash = (let so = there.1 in grind (arith, so)); found = found }); kept = λ two h. groups two; whole = λ two f in_events so. groups two }
    where
      there : Contains l.events e × (is_sought true l.class y e ≡ true)
      there = find_is (is_sought true l.class y) l.events e is

      groups : (two : Bool) → are_of_groups two r.first r.second ≡ true
      groups two = let so = there.1 in grind (arith, nat_tests, found.turned, so)

module _ (y : ClockedAccess) (tag : ℕ) where
  -- what holds of one list holds of each list in the list of it alone
  of_one : (l m : AlikeEvents) → Contains (l ∷ []) m → (P : AlikeEvents → Type 0) → P l → P m
  of_one l m (zero, lt, is) P holds = subst P is holds
  of_one l m (suc k, lt, is) P holds = absurd (omega (arith, lt))

  -- where there is no race of the two tags, and it clashes with none
  pub finds_none : (l : AlikeEvents) (old : List TaggedRace) → sought l y false ≡ None → Finds y tag (l ∷ []) old old
  finds_none l old none = record {
    kept = λ two a b h. h;
    each = λ u there. inl there;
    whole = λ two m f there. of_one l m there (λ (k : AlikeEvents). Contains k.events f → is_sought two k.class y f ≡ true → has_tags two old k.tag tag ≡ true) (λ event so. absurd (found_none (is_sought false l.class y) l.events f none event (grind (arith, so))));
    others = λ h. h;
  }

  -- or it clashes with one, and their race stays or gives way
  module _ (l : AlikeEvents) (e : EventId) (first r : Race) (old : List TaggedRace) (had : list_any (is_of_tags l.tag tag) old ≡ false) (clash : sought l y false ≡ Some e) (found : IsFound e y first) (is : IsPreferred l y first r) where
    abbrev t : TaggedRace
    t = record { race = r; tag = l.tag; other = tag }

    among : IsFoundAmong (l ∷ []) y tag t
    among =
        let there = find_is (is_sought false l.class y) l.events e clash in
        let it : IsFoundIn l y first = record { earlier = e; event = there.0; clash = (let so = there.1 in grind (arith, so)); found = found } in
        record { list = l; there = Contains-push [] l; found = ⊎_elim (λ (same : first ≡ r). subst (IsFoundIn l y) same it) (λ new. new) is.one; tags = grind (arith, nat_tests) }

    apart : (k : ℕ) (d : TaggedRace) → k < length old → is_of_tags (get_or old k d).tag (get_or old k d).other t ≡ false
    apart k d lt =
        let none : is_of_tags l.tag tag (get_or old k d) ≡ false = grind (arith, common_steps, had) in
        grind (arith, nat_tests, none)

    pub finds_one : Finds y tag (l ∷ []) old (old ++ t ∷ [])
    finds_one = record {
      kept = λ two a b h. grind (arith, list_any-append);
      each = λ u within_new. ⊎_elim
          (λ (was : Contains old u). inl was)
          (λ (last : t ≡ u). inr (subst (IsFoundAmong (l ∷ []) y tag) last among))
          (Contains-push_cases old t u within_new);
      whole = λ two m f there. of_one l m there (λ (k : AlikeEvents). Contains k.events f → is_sought two k.class y f ≡ true → has_tags two (old ++ t ∷ []) k.tag tag ≡ true)
          (λ event so. contains_any (is_so two l.tag tag) (old ++ t ∷ []) t (Contains-push old t) (grind (arith, nat_tests, is.whole two f event so)));
      others = λ h. all_pairs_push (λ (t u : TaggedRace). is_of_tags t.tag t.other u ≡ false) old t h apart;
    }

  -- or there is one, which stays or gives way
  module _ (l : AlikeEvents) (old : List TaggedRace) (place : ℕ) (d : TaggedRace) (r : Race) (lt : place < length old) (tags : is_of_tags l.tag tag (get_or old place d) ≡ true) (is : IsPreferred l y (get_or old place d).race r) where
    abbrev had : TaggedRace
    had = get_or old place d

    abbrev now : TaggedRace
    now = record { race = r; tag = had.tag; other = had.other }

    same_tags : (k : ℕ) (e : TaggedRace) → ((get_or (slice_set old place now) k e).tag ≡ (get_or old k e).tag) × ((get_or (slice_set old place now) k e).other ≡ (get_or old k e).other)
    same_tags k e = ⊎_elim
        (λ (here : k ≡ place). rw (here, get_or-set_same old place now e lt, get_or_default old place e d lt) (refl, refl))
        (λ other. rw (get_or-set_other old place k now e other) (refl, refl))
        (cases_eq k place)

    pub finds_set : Finds y tag (l ∷ []) old (slice_set old place now)
    finds_set = record {
      kept = λ two a b h.
          let x = any_there (is_so two a b) old h in
          ⊎_elim
          (λ (here : had ≡ x.0). contains_any (is_so two a b) (slice_set old place now) now (set_has old place now lt) (let so = x.2 in grind (arith, nat_tests, is.kept two, so, here)))
          (λ still. contains_any (is_so two a b) (slice_set old place now) x.0 still x.2)
          (set_still old place now d x.0 x.1);
      each = λ u there. ⊎_elim
          (λ (here : now ≡ u). ⊎_elim
          (λ (same : had.race ≡ r). inl (subst (Contains old) (ap (λ q. record { race = q; tag = had.tag; other = had.other }) same ∙ here) (Contains-get_or old place d lt)))
          (λ found. inr (subst (IsFoundAmong (l ∷ []) y tag) here (record { list = l; there = Contains-push [] l; found = found; tags = tags })))
          is.one)
          (λ was. inl was)
          (set_was old place now u there);
      whole = λ two m f there. of_one l m there (λ (k : AlikeEvents). Contains k.events f → is_sought two k.class y f ≡ true → has_tags two (slice_set old place now) k.tag tag ≡ true)
          (λ event so. contains_any (is_so two l.tag tag) (slice_set old place now) now (set_has old place now lt) (grind (arith, tags, is.whole two f event so)));
      others = λ h i j e before within. rw ((same_tags i e).0, (same_tags i e).1, (same_tags j e).0, (same_tags j e).1) (h i j e before (omega (arith, within, length-set old place now)));
    }

  among_more : (xs zs : List AlikeEvents) (t : TaggedRace) → ((l : AlikeEvents) → Contains xs l → Contains zs l) → IsFoundAmong xs y tag t → IsFoundAmong zs y tag t
  among_more xs zs t more among = record { list = among.list; there = more among.list among.there; found = among.found; tags = among.tags }

  -- one list after others
  pub finds_more : (xs : List AlikeEvents) (z : AlikeEvents) (a b c : List TaggedRace) → Finds y tag xs a b → Finds y tag (z ∷ []) b c → Finds y tag (xs ++ z ∷ []) a c
  finds_more xs z a b c first second = record {
    kept = λ two m n h. second.kept two m n (first.kept two m n h);
    each = λ t there. ⊎_elim
        (λ (was : Contains b t). ⊎_elim (λ (old : Contains a t). inl old) (λ among. inr (among_more xs (xs ++ z ∷ []) t (λ l. Contains-append_left xs (z ∷ []) l) among)) (first.each t was))
        (λ among. inr (among_more (z ∷ []) (xs ++ z ∷ []) t (λ l. Contains-append_right xs (z ∷ []) l) among))
        (second.each t there);
    whole = λ two l e there event is. ⊎_elim
        (λ (in_xs : Contains xs l). second.kept two l.tag tag (first.whole two l e in_xs event is))
        (λ (last : Contains (z ∷ []) l). second.whole two l e last event is)
        (Contains-append_cases xs (z ∷ []) l there);
    others = λ h. second.others (first.others h);
  }

-- ---- the lists

-- where an access with its tag is kept in a list of its tag and class, the other lists stay
keeps_in : (old new : List AlikeEvents) (before : List EventId) (after : AlikeEvents) (tag : ℕ) (y : ClockedAccess) → after.tag ≡ tag → after.class ≡ y.class → KeepsEvents after.events (before ++ event_of y ∷ []) → Contains new after → ((e : EventId) → Contains before e → IsKeptIn old tag y.class e) → ((l : AlikeEvents) → Contains new l → (after ≡ l) ⊎ Contains old l) → ((l : AlikeEvents) → Contains old l → ((l.tag ≡ tag) × (l.class ≡ y.class) × (before ≡ l.events)) ⊎ Contains new l) → KeepsMore old tag y new
keeps_in old new before after tag y tag_is class_is keeps has kept_before was still = record {
  each = λ t c e kept. ⊎_elim
      (λ (here : after ≡ kept.list).
      let same_tag : tag ≡ t = sym tag_is ∙ (ap (λ (l : AlikeEvents). l.tag) here ∙ kept.tag_is) in
      let same_class : y.class ≡ c = sym class_is ∙ (ap (λ (l : AlikeEvents). l.class) here ∙ kept.class_is) in
      ⊎_elim
      (λ (earlier : Contains before e). inr (rw (← same_tag, ← same_class) (kept_before e earlier)))
      (λ (last : event_of y ≡ e). inl (record { tag_is = sym same_tag; class_is = sym same_class; event_is = sym last }))
      (Contains-push_cases before (event_of y) e (keeps.each e (rw here kept.event))))
      (λ there. inr (record { list = kept.list; there = there; tag_is = kept.tag_is; class_is = kept.class_is; event = kept.event }))
      (was kept.list kept.there);
  some = λ t c e. ⊎_elim
      (λ (that : IsThat y tag t c e). now t c e that.tag_is that.class_is (rw that.event_is (Contains-push before (event_of y))))
      (λ (kept : IsKeptIn old t c e). ⊎_elim
      (λ here. now t c e (sym kept.tag_is ∙ here.0) (sym kept.class_is ∙ here.1) (Contains-append_left before (event_of y ∷ []) e (rw here.2 kept.event)))
      (λ there. (e, record { list = kept.list; there = there; tag_is = kept.tag_is; class_is = kept.class_is; event = kept.event }, in_place_of_itself e))
      (still kept.list kept.there));
}
  where
    now : (t : ℕ) (c : Class) (e : EventId) → t ≡ tag → c ≡ y.class → Contains (before ++ event_of y ∷ []) e → (d : EventId) × IsKeptIn new t c d × IsInPlaceOf d e
    now t c e of_tag of_class there =
        let d = keeps.some e there in
        (d.0, record { list = after; there = has; tag_is = tag_is ∙ sym of_tag; class_is = class_is ∙ sym of_class; event = d.1 }, d.2)

-- where there is such a list
pub keeps_set : (lists : List AlikeEvents) (place : ℕ) (before after : AlikeEvents) (tag : ℕ) (y : ClockedAccess) → place < length lists → before ≡ get_or lists place before → before.tag ≡ tag → before.class ≡ y.class → after.tag ≡ before.tag → after.class ≡ before.class → KeepsEvents after.events (before.events ++ event_of y ∷ []) → KeepsMore lists tag y (slice_set lists place after)
keeps_set lists place before after tag y lt is of_tag of_class same_tag same_class keeps =
    keeps_in lists (slice_set lists place after) before.events after tag y (same_tag ∙ of_tag) (same_class ∙ of_class) keeps (set_has lists place after lt)
    (λ e was. record { list = before; there = (place, lt, sym is); tag_is = of_tag; class_is = of_class; event = was }) (set_was lists place after)
    (λ l there. grind (arith, set_still lists place after before l there))

-- where it is a new one
pub keeps_push : (lists : List AlikeEvents) (after : AlikeEvents) (tag : ℕ) (y : ClockedAccess) → after.tag ≡ tag → after.class ≡ y.class → KeepsEvents after.events ([] ++ event_of y ∷ []) → KeepsMore lists tag y (lists ++ after ∷ [])
keeps_push lists after tag y of_tag of_class keeps =
    keeps_in lists (lists ++ after ∷ []) [] after tag y of_tag of_class keeps (Contains-push lists after) (λ e none. absurd (omega (arith, none.1)))
    (λ l there. grind (arith, Contains-push_cases lists after l there)) (λ l there. inr (Contains-append_left lists (after ∷ []) l there))

-- ---- one more access

module _ (w : Word) (accesses : List ClockedAccess) (y : ClockedAccess) (tag_of : EventId → ℕ) where
  still_tagged : (t : TaggedRace) → IsTaggedClash tag_of w accesses t → IsTaggedClash tag_of w (accesses ++ y ∷ []) t
  still_tagged t is = record { word = is.word; clash = still_pair w accesses y (t.race.first, t.race.second) is.clash; tags = is.tags }

  still_of_tag : (t : ℕ) (c : Class) (e : EventId) → IsOfTag tag_of w accesses t c e → IsOfTag tag_of w (accesses ++ y ∷ []) t c e
  still_of_tag t c e of = record { access = still_of w accesses y e c of.access; tag_is = of.tag_is }

-- an access to another word changes nothing
pub other_stands_for_tags : {Z : Type 0} (tag_of : EventId → ℕ) (w : Word) (accesses : List ClockedAccess) (y : ClockedAccess) → y.word ≢ w → (pairs : TagPairs Z) → StandsForTags tag_of w accesses pairs → StandsForTags tag_of w (accesses ++ y ∷ []) pairs
other_stands_for_tags tag_of w accesses y other pairs stands = record {
  each = λ t c e kept. still_of_tag w accesses y tag_of t c e (stands.each t c e kept);
  some = λ t c e of. stands.some t c e (⊎_elim (λ was. record { access = was; tag_is = of.tag_is }) (λ last. absurd (other last.0)) (of_cases w accesses y e c of.access));
  sound = λ t there. still_tagged w accesses y tag_of t (stands.sound t there);
  whole = λ two e f clash groups. ⊎_elim (λ was. stands.whole two e f was groups) (λ new. absurd (other new.word)) (clash_was w accesses y e f clash);
  others = stands.others;
}

module _ {Z : Type 0} (tag_of : EventId → ℕ) (accesses : List ClockedAccess) (y : ClockedAccess) (tag : ℕ) (tag_is : tag_of (event_of y) ≡ tag) (old new : TagPairs Z) (stands : StandsForTags tag_of y.word accesses old) (finds : Finds y tag old.lists.items old.found.items new.found.items) (keeps : KeepsMore old.lists.items tag y new.lists.items) where
  -- a race of it that was added
  added_race : (t : TaggedRace) → IsFoundAmong old.lists.items y tag t → IsTaggedClash tag_of y.word (accesses ++ y ∷ []) t
  added_race t among =
      let l = among.list in
      let is = among.found in
      let e = is.earlier in
      let of = stands.each l.tag l.class e (record { list = l; there = among.there; tag_is = refl; class_is = refl; event = is.event }) in
      let turned = is.found.turned in
      let clashes = is.clash in
      record {
        word = is.found.word;
        clash = record { earlier = e; later = event_of y; clash = clash_added accesses y e l.class of.access is.clash; turned = turned; below = is.found.below (λ same. grind (arith, clashes, same, same_item_self)) };
        tags = grind (arith, nat_tests, of.tag_is, among.tags, tag_is, turned);
      }

  -- where the access clashes with an earlier one, their two tags have a race now
  clash_found : (two : Bool) (e f : EventId) → IsNewClash y.word accesses y e f → are_of_groups two e f ≡ true → has_tags two new.found.items (tag_of e) (tag_of f) ≡ true
  clash_found two e f clash groups =
      let d = stands.some (tag_of e) clash.class e (record { access = clash.of; tag_is = refl }) in
      let clashes = later_clashes clash.class y d.0 e d.2 clash.clash in
      let same_class : d.1.list.class ≡ clash.class = d.1.class_is in
      let sought : is_sought two d.1.list.class y d.0 ≡ true = grind (arith, clashes, groups, d.2.item, clash.event, same_class) in
      let now = finds.whole two d.1.list d.0 d.1.there d.1.event sought in
      rw (← d.1.tag_is, ← clash.event, tag_is) now

  some_of : (t : ℕ) (c : Class) (e : EventId) → IsOfTag tag_of y.word (accesses ++ y ∷ []) t c e → (d : EventId) × IsKeptIn new.lists.items t c d × IsInPlaceOf d e
  some_of t c e of = ⊎_elim
      (λ was.
      let d = stands.some t c e (record { access = was; tag_is = of.tag_is }) in
      let f = keeps.some t c d.0 (inr d.1) in
      (f.0, f.1, in_place_of_both f.0 d.0 e f.2 d.2))
      (λ last. keeps.some t c e (inl (record { tag_is = sym of.tag_is ∙ (ap tag_of (sym last.1) ∙ tag_is); class_is = sym last.2; event_is = sym last.1 })))
      (of_cases y.word accesses y e c of.access)

  pub tag_stands : StandsForTags tag_of y.word (accesses ++ y ∷ []) new
  tag_stands = record {
    each = λ t c e kept. ⊎_elim
        (λ (that : IsThat y tag t c e). record { access = new_is_of accesses y e c (sym that.event_is) (sym that.class_is); tag_is = ap tag_of that.event_is ∙ (tag_is ∙ sym that.tag_is) })
        (λ (was : IsKeptIn old.lists.items t c e). still_of_tag y.word accesses y tag_of t c e (stands.each t c e was))
        (keeps.each t c e kept);
    some = some_of;
    sound = λ t there. ⊎_elim (λ (was : Contains old.found.items t). still_tagged y.word accesses y tag_of t (stands.sound t was)) (λ among. added_race t among) (finds.each t there);
    whole = λ two e f clash groups. ⊎_elim (λ was. finds.kept two (tag_of e) (tag_of f) (stands.whole two e f was groups)) (λ new. clash_found two e f new groups) (clash_was y.word accesses y e f clash);
    others = finds.others stands.others;
  }
