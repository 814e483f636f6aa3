-- If a group may have a list of events, each of them is sent, and as it is.
use Rattle.gr_model.proofs.Common.{◌≡◌, ℕ, zero, suc, ◌+◌, ◌≤◌, Bool, List, [], ◌∷◌, ◌++◌, length, map, refl, sym, subst, arith, inl, inr, true≢false, IsFalse, cases_Bool, length-append, length-map, nil_from_length}
use Rattle.gr_streams.specs.Types.{Event, Kind, End}
use Rattle.gr_record.specs.Types.{Name, Space}
use Rattle.gr_model.specs.Prelude.{IsEventOk, IsKindOk, IsNamingOk, end_of, is_end, AreGood, IsAccepted, IsPrefix, is_complete}
use Rattle.gr_model.proofs.Sending.{is_complete-push}
use Rattle.gr_model.proofs.StreamPrefixes.{next_ok, next_unended, prefix_prefix}
use Rattle.gr_streams.specs.Sending.{IsStuck, MayFollow, sent_as, sent_by_kind}

-- ---- each event is sent as it is

abbrev event : ℕ → Kind → Space → ℕ → List Name → Event
event item kind space word names = record { item = item; kind = kind; space = space; word = word; names = names }

same_end : (cut : Bool) (item : ℕ) (space : Space) (word : ℕ) (names : List Name) → IsNamingOk (End cut) names → IsKindOk (End cut) item space word → end_of cut ≡ event item (End cut) space word names
same_end cut item space word [] naming (i, s, w) = λ k. event (sym i k) (End cut) (sym s k) (sym w k) []
same_end cut item space word (n ∷ names) naming kind = absurd (true≢false (sym naming.0))

same_kind : (k : Kind) (item : ℕ) (space : Space) (word : ℕ) (names : List Name) → IsNamingOk k names → IsKindOk k item space word → sent_by_kind k (event item k space word names) ≡ event item k space word names
same_kind (End cut) item space word names naming kind = same_end cut item space word names naming kind
same_kind _ item space word names naming kind = refl

same_event : (e : Event) (items : ℕ) → IsEventOk e items → sent_as e ≡ e
same_event e items ok = same_kind e.kind e.item e.space e.word e.names ok.1 ok.2

-- ---- lists

tail_good : (items : ℕ) (x : Event) (xs : List Event) → AreGood items (x ∷ xs) → AreGood items xs
tail_good items x xs good p y at = let g = good (suc p) y at in (g.0, λ end. let l : suc p + 1 ≡ suc (length xs) = g.1 end in omega arith)

pub sent_as_they_are : (items : ℕ) (xs : List Event) → AreGood items xs → map sent_as xs ≡ xs
sent_as_they_are items [] good = refl
sent_as_they_are items (x ∷ xs) good =
    let first : sent_as x ≡ x = same_event x items (good zero x refl).0 in
    let rest = sent_as_they_are items xs (tail_good items x xs good) in
    λ k. first k ∷ rest k

pub may_follow : (items : ℕ) (before : List Event) (e : Event) (after : List Event) → IsAccepted items (before ++ e ∷ after) → MayFollow items (map sent_as before) e
may_follow items before e after list = record {
  unended = subst (λ (l : List Event). IsFalse (is_complete l)) (sym same) (next_unended items before e after prefix);
  sendable = elim (cases_Bool (is_end e)) [
    | inl is ↦ inl is
    | inr is ↦
        let behind : 1 ≤ length after = grind (arith, is_complete-push before e, list.ended, nil_from_length after) in
        inr ((is, next_ok items before e after prefix), omega (arith, length-map before sent_as, length-append before (e ∷ after), list.few, behind))
  ];
}
  where
    prefix : IsPrefix items (before ++ e ∷ after)
    prefix = record { few = list.few; good = list.good }

    same : map sent_as before ≡ before
    same = sent_as_they_are items before (prefix_prefix items before (e ∷ after) prefix).good

-- so none was refused
pub none_refused : (items : ℕ) (events : List Event) → IsAccepted items events → IsStuck items events → ⊥
none_refused items events list stuck = stuck.refused (may_follow items stuck.before stuck.event stuck.after (subst (IsAccepted items) stuck.split list))
