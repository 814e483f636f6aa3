-- Records that wait: one more, and the first of them.
use Rattle.gr_model.proofs.Common.{◌≡◌, ◌⊎◌, ℕ, zero, suc, ◌+◌, ◌<◌, ◌≤◌, Bool, true, false, cond, List, [], ◌∷◌, ◌++◌, length, drop, filter, get_or, set, refl, sym, ap, ◌∙◌, arith, append-nil, append_assoc, eqb-true, ◌==◌, flat_map, drop_all, drop_more, drop-append-le, length-append, get_or-set_other, get_or_append_left, length-set}
use Rattle.gr_intake.specs.Types.{Event, Name, Header, Short}
use Rattle.gr_intake.specs.Waiting.{AreNamed, ArePieces, Coming, behind_names, first_names, listed, short_of, with_names}

-- a stream with what waits of it
abbrev pub coming : Header → List Event → Coming
coming h waiting = record { header = h; waiting = waiting }

-- ---- in few bytes

pub no_names : (names : List Name) → (length names == 0) ≡ true → names ≡ []
no_names [] none = refl
no_names (n ∷ names) none = let zero_long = eqb-true (suc (length names)) 0 none in absurd (omega (arith, zero_long))

pub listed-append : (ss ts : List Short) (ns ms : List (List Name)) → AreNamed ss ns → listed (ss ++ ts) (ns ++ ms) ≡ listed ss ns ++ listed ts ms
unfolding listed
listed-append [] ts [] ms are = refl
listed-append [] ts (n ∷ ns) ms are = absurd (omega (arith, are))
listed-append (s ∷ ss) ts ns ms are = by_names s.has_names ns are (λ rest. listed-append ss ts rest ms)
  where
    by_names : (b : Bool) (ns : List (List Name)) → length ns ≡ length (cond b (s ∷ filter (λ t. t.has_names) ss) (filter (λ t. t.has_names) ss))
        → ((rest : List (List Name)) → AreNamed ss rest → listed (ss ++ ts) (rest ++ ms) ≡ listed ss rest ++ listed ts ms)
        → with_names s (first_names b (ns ++ ms)) ∷ listed (ss ++ ts) (behind_names b (ns ++ ms)) ≡ with_names s (first_names b ns) ∷ listed ss (behind_names b ns) ++ listed ts ms
    by_names b ns count later = grind arith

-- a record more
module _ (ss : List Short) (ns : List (List Name)) (are : AreNamed ss ns) (e : Event) where
  pub listed_plain : e.names ≡ [] → listed (ss ++ short_of e false ∷ []) ns ≡ listed ss ns ++ e ∷ []
  unfolding listed
  listed_plain none = grind (arith, append-nil ns, listed-append ss (short_of e false ∷ []) ns [] are)

  pub listed_naming : listed (ss ++ short_of e true ∷ []) (ns ++ e.names ∷ []) ≡ listed ss ns ++ e ∷ []
  unfolding listed
  listed_naming = listed-append ss (short_of e true ∷ []) ns (e.names ∷ []) are

-- the same, of what is left after those that were read
module _ (shorts : List Short) (read : ℕ) (names : List (List Name)) (names_read : ℕ) (are : AreNamed (drop read shorts) (drop names_read names)) (within : read ≤ length shorts) {old : List Event} (view : listed (drop read shorts) (drop names_read names) ≡ old) (e : Event) (s : Short) (shorts' : List Short) (grown : shorts' ≡ shorts ++ s ∷ []) where
  left : drop read shorts' ≡ drop read shorts ++ s ∷ []
  left = ap (drop read) grown ∙ drop-append-le read shorts (s ∷ []) within

  pub plain_pushed : s ≡ short_of e false → e.names ≡ [] → listed (drop read shorts') (drop names_read names) ≡ old ++ e ∷ []
  plain_pushed is none = grind (arith, left, listed_plain)

  pub naming_pushed : s ≡ short_of e true → (names' : List (List Name)) → names_read ≤ length names → names' ≡ names ++ e.names ∷ [] → listed (drop read shorts') (drop names_read names') ≡ old ++ e ∷ []
  naming_pushed is names' below more = grind (arith, drop-append-le, left, listed_naming)

-- the first record that is left
module _ (shorts : List Short) (read : ℕ) (lists : List (List Name)) (are : AreNamed (drop read shorts) lists) (s : Short) (within : read < length shorts) (reads : s ≡ get_or shorts read s) where
  front : drop read shorts ≡ s ∷ drop (read + 1) shorts
  front = drop_more shorts read s within ∙ ap (λ x. x ∷ drop (read + 1) shorts) (sym reads)

  pub first_listed : listed (drop read shorts) lists ≡ with_names s (first_names s.has_names lists) ∷ listed (drop (read + 1) shorts) (behind_names s.has_names lists)
  unfolding listed
  first_listed = ap (λ (ss : List Short). listed ss lists) front

  pub first_taken : (e : Event) (names : List Name) (after : List Event) → e ≡ with_names s names → names ≡ first_names s.has_names lists → after ≡ listed (drop (read + 1) shorts) (behind_names s.has_names lists) → listed (drop read shorts) lists ≡ e ∷ after
  first_taken e names after is named rest = grind (arith, first_listed)

  -- the same of one that names none
  pub first_plain : s.has_names ≡ false → (e : Event) (after : List Event) → e ≡ with_names s [] → after ≡ listed (drop (read + 1) shorts) lists → listed (drop read shorts) lists ≡ e ∷ after
  first_plain none e after is rest = grind (arith, first_taken)

-- where all were read, none is left
pub none_listed : (shorts : List Short) (read : ℕ) (lists : List (List Name)) → length shorts ≤ read → listed (drop read shorts) lists ≡ []
unfolding listed
none_listed shorts read lists past = ap (λ (ss : List Short). listed ss lists) (drop_all read shorts past)

pub none_yet : (shorts : List Short) (lists : List (List Name)) → shorts ≡ [] → listed shorts lists ≡ []
unfolding listed
none_yet shorts lists none = rw none refl

-- ---- pieces

abbrev pub waiting_in : List (List Event) → List Event
waiting_in pieces = flat_map (λ p. p) pieces

-- a piece without records adds none
pub empty_piece : (pieces : List (List Event)) → waiting_in (pieces ++ [] ∷ []) ≡ waiting_in pieces
empty_piece [] = refl
empty_piece (q ∷ pieces) = ap (λ (w : List Event). q ++ w) (empty_piece pieces)

-- a record more in the last piece is the last of all
pub last_piece : (pieces : List (List Event)) (k : ℕ) (d q : List Event) (e : Event) → k + 1 ≡ length pieces → q ≡ get_or pieces k d ++ e ∷ [] → waiting_in (set pieces k q) ≡ waiting_in pieces ++ e ∷ []
last_piece [] k d q e last is = absurd (omega (arith, last))
last_piece (p ∷ []) zero d q e last is = append-nil q ∙ (is ∙ ap (λ (w : List Event). w ++ e ∷ []) (sym (append-nil p)))
last_piece (p ∷ []) (suc k) d q e last is = absurd (omega (arith, last))
last_piece (p ∷ o ∷ pieces) zero d q e last is = absurd (omega (arith, last))
last_piece (p ∷ o ∷ pieces) (suc k) d q e last is = grind (arith, append_assoc, last_piece (o ∷ pieces) k d q e (omega (arith, last)) is)

-- the first record of the first piece that has one is the first of all
pub first_piece : (pieces : List (List Event)) (k : ℕ) (d q : List Event) (e : Event) → k < length pieces → ((j : ℕ) → j < k → get_or pieces j [] ≡ []) → get_or pieces k d ≡ e ∷ q → waiting_in pieces ≡ e ∷ waiting_in (set pieces k q)
first_piece [] k d q e lt read is = absurd (omega (arith, lt))
first_piece (p ∷ pieces) zero d q e lt read is = ap (λ (w : List Event). w ++ waiting_in pieces) is
first_piece (p ∷ pieces) (suc k) d q e lt read is =
    let none : p ≡ [] = read 0 (omega arith) in
    ap (λ (w : List Event). w ++ waiting_in pieces) none
    ∙ (first_piece pieces k d q e (omega (arith, lt)) (λ j below. read (suc j) (omega (arith, below))) is
    ∙ ap (λ (w : List Event). e ∷ w ++ waiting_in (set pieces k q)) (sym none))

-- where nothing waits in any piece, nothing waits
pub nothing_in : (pieces : List (List Event)) (k : ℕ) → length pieces ≤ k → ((j : ℕ) → j < k → get_or pieces j [] ≡ []) → waiting_in pieces ≡ []
nothing_in [] k le read = refl
nothing_in (p ∷ pieces) zero le read = absurd (omega (arith, le))
nothing_in (p ∷ pieces) (suc k) le read =
    ap (λ (w : List Event). w ++ waiting_in pieces) (read 0 (omega arith)) ∙ nothing_in pieces k (omega (arith, le)) (λ j below. read (suc j) (omega (arith, below)))

-- the pieces of a backlog, where one without records may have been added after them
pieces_grow : (old new : List (List Event)) (first : ℕ) → ArePieces old first → (new ≡ old) ⊎ (new ≡ old ++ [] ∷ []) → ArePieces new first
pieces_grow old new first are grown = grind (arith, get_or_append_left, length-append)

-- and nothing else waits then
pub waiting_grows : (old new : List (List Event)) → (new ≡ old) ⊎ (new ≡ old ++ [] ∷ []) → waiting_in new ≡ waiting_in old
waiting_grows old new grown = grind (arith, empty_piece)

-- the pieces, where the last one is written, which is read next or later
piece_written : (ps : List (List Event)) (first k next : ℕ) (q : List Event) → ArePieces ps first → k < length ps → next ≤ first → next ≤ k → ArePieces (set ps k q) next
piece_written ps first k next q are lt less le = grind (arith, length-set, get_or-set_other)

pub last_written : (old new : List (List Event)) (first last next : ℕ) (q : List Event) → ArePieces old first → (new ≡ old) ⊎ (new ≡ old ++ [] ∷ []) → last + 1 ≡ length new → next ≤ first → next ≤ last → ArePieces (set new last q) next
last_written old new first last next q are grown there less le = piece_written new first last next q (pieces_grow old new first are grown) (omega (arith, there)) less le
