-- Lists grow by a record that is taken.
use Rattle.gr_model.proofs.Common.{◌≡◌, ℕ, [], ◌∷◌, ◌++◌, refl, sym, ap, ◌∙◌, subst, inl, ⊎_elim, arith, append-nil, ◌<◌, length, cases_eq, false_from_ne_true, get_or-set_same, get_or-set_other, length-set}
use Rattle.gr_model.specs.declared.event.Event.{Event}
use Rattle.gr_model.specs.declared.limits.TheConstants.{MOST_RECORDS}
use Rattle.gr_model.specs.Prelude.{ArePrefixes, Grows, IsPrefix, Streams, is_complete, list_of, size_of}
use Rattle.gr_model.proofs.StreamPrefixes.{prefix_push}
use Rattle.gr_lanes.specs.Takes.{CanTake, IsEventButItem, with_record}

module _ (s : Streams) (g : ℕ) (x : Event) (prefixes : ArePrefixes s) (can : CanTake s g x) where
  pub here : list_of (with_record s g x) g ≡ list_of s g ++ x ∷ []
  here = get_or-set_same s.lists g (list_of s g ++ x ∷ []) [] (omega (arith, prefixes.count, can.group))

  pub other : (h : ℕ) → (h ≡ g → ⊥) → list_of (with_record s g x) h ≡ list_of s h
  other h apart = get_or-set_other s.lists g h (list_of s g ++ x ∷ []) [] apart

  pub record_grows : Grows s (with_record s g x)
  record_grows = record {
    sizes = λ h. inl refl;
    lists = λ h. ⊎_elim
        (λ (same : h ≡ g). (x ∷ [], ap (list_of (with_record s g x)) same ∙ (here ∙ ap (λ n. list_of s n ++ x ∷ []) (sym same))))
        (λ apart. ([], other h apart ∙ sym (append-nil (list_of s h))))
        (cases_eq h g);
    whole = λ h whole. grind (arith, other h, can.before_end);
  }

  pub prefixes_grow : IsEventButItem x → length (list_of s g) < MOST_RECORDS → ArePrefixes (with_record s g x)
  prefixes_grow good room = record {
    shape = prefixes.shape;
    count = length-set s.lists g (list_of s g ++ x ∷ []) ∙ prefixes.count;
    each = λ h there. ⊎_elim
        (λ (same : h ≡ g). subst (λ n. IsPrefix (size_of s n) (list_of (with_record s g x) n)) (sym same) own)
        (λ apart. rw (other h apart) (prefixes.each h there))
        (cases_eq h g);
  }
    where
      own : IsPrefix (size_of s g) (list_of (with_record s g x) g)
      own = subst (IsPrefix (size_of s g)) (sym here) (prefix_push (size_of s g) (list_of s g) x (prefixes.each g can.group) (can.item, good.0, good.1) (false_from_ne_true (is_complete (list_of s g)) can.before_end) room)
