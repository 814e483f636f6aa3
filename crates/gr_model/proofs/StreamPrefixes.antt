-- Prefixes of a work-group's stream: they grow by records that may come next, and a complete one is the whole.
use Rattle.gr_model.proofs.Common.{◌≡◌, ℕ, ◌-◌, ◌<◌, List, [], ◌∷◌, ◌++◌, length, arith, length-append, IsTrue, IsFalse, common_steps, gets, slice_get_within, slice_get-get_or}
use Rattle.gr_model.specs.Types.{Event, MOST_RECORDS}
use Rattle.gr_model.specs.Prelude.{IsEventOk, IsPrefix, is_complete}
use Rattle.gr_model.proofs.ListsOfRecords.{is_complete-last}
use Rattle.gr_model.proofs.Places.{slice_get-append}

pub prefix_nil : (n : ℕ) → IsPrefix n []
prefix_nil n = grind arith

pub prefix_push : (n : ℕ) (xs : List Event) (e : Event) → IsPrefix n xs → IsEventOk e n → IsFalse (is_complete xs) → length xs < MOST_RECORDS → IsPrefix n (xs ++ e ∷ [])
prefix_push n xs e prefix ok unended room = record {
  few = omega (arith, length-append xs (e ∷ []));
  good = λ p x at. grind (arith, common_steps, gets, prefix.good p x, is_complete-last xs x);
}

pub prefix_prefix : (n : ℕ) (xs ys : List Event) → IsPrefix n (xs ++ ys) → IsPrefix n xs
prefix_prefix n xs ys prefix = record {
  few = omega (arith, prefix.few, length-append xs ys);
  good = λ p x at. grind (arith, prefix.good p x, slice_get-append xs ys p x at, length-append xs ys, slice_get_within xs p x at);
}

-- what is complete has no more
pub prefix_whole : (n : ℕ) (xs ys : List Event) → IsPrefix n (xs ++ ys) → IsTrue (is_complete xs) → ys ≡ []
prefix_whole n (x ∷ xs) (y ∷ ys) prefix whole =
    let end = slice_get-get_or (x ∷ xs) (length (x ∷ xs) - 1) x (omega arith) in
    grind (arith, prefix.good _ _ (slice_get-append (x ∷ xs) (y ∷ ys) _ _ end), is_complete-last (x ∷ xs) _ end, length-append xs (y ∷ ys))
prefix_whole n xs ys prefix whole = cc

-- what a stream has next
pub next_ok : (n : ℕ) (xs : List Event) (e : Event) (ys : List Event) → IsPrefix n (xs ++ e ∷ ys) → IsEventOk e n
next_ok n xs e ys prefix = (prefix.good (length xs) e (grind (arith, common_steps, gets))).0

pub next_unended : (n : ℕ) (xs : List Event) (e : Event) (ys : List Event) → IsPrefix n (xs ++ e ∷ ys) → IsFalse (is_complete xs)
next_unended n xs e ys prefix = grind (arith, prefix_whole n xs (e ∷ ys) prefix)

pub next_room : (n : ℕ) (xs : List Event) (e : Event) (ys : List Event) → IsPrefix n (xs ++ e ∷ ys) → length xs < MOST_RECORDS
next_room n xs e ys prefix = omega (arith, prefix.few, length-append xs (e ∷ ys))
