-- Headers of one launch: what the first of them and the sizes of their groups tell, and a header that comes after them.
use Rattle.gr_model.proofs.Common.{Decides, ◌≡◌, ◌≢◌, ◌<◌, ◌≤◌, ℕ, suc, Bool, true, false, List, [], ◌∷◌, ◌++◌, length, drop, take, slice_get, get_or, Option, MatchOption, None, Some, Result, Ok, refl, sym, ap, ◌∙◌, subst, arith, inl, inr, not, ◌==◌, All, list_any, cases_Bool, drop-append-le, eq-eqb, eqb-false, eqb-true, le-ltb, length-append, length-take, not-false, take-append-drop, true_from_ne_false, All-contains, Any-from_list_any, list_any_at, list_any_none}
use Rattle.gr_model.specs.Prelude.{HasItem}
use Rattle.gr_intake.specs.Types.{Fault, Header, HEADER_LENGTH}
use Rattle.gr_record.specs.declared.header.Version.{Version}
use Rattle.gr_record.specs.Prelude.{front_header_at, header_at}
use Rattle.gr_record.specs.Reading as reading_spec
use Rattle.gr_record.specs.WholeStreams as record_spec
use Rattle.gr_intake.specs.Intakes.{AreSeen}
use Rattle.gr_intake.specs.Joined.{◌>>=◌, at_place, header_after, unless_seen}
use Rattle.gr_intake.proofs.Faults.{at_place_ok, same_ok, then_ok}

-- ---- a header depends on its own bytes only

-- the header at the front of these bytes, and the bytes after it
pub record IsFront (bytes : List ℕ) (h : Header) (rest : List ℕ) : Type 0 where
  pub long : HEADER_LENGTH ≤ length bytes
  pub header : header_at bytes ≡ Ok h
  pub left : rest ≡ drop HEADER_LENGTH bytes

pub front_is : (bytes : List ℕ) (h : Header) (rest : List ℕ) → front_header_at bytes ≡ Ok (h, rest) → IsFront bytes h rest
unfolding front_header_at
front_is bytes h rest is = grind (arith, same_ok)

module _ (bytes more : List ℕ) (long : HEADER_LENGTH ≤ length bytes) where
  same_behind : (v : Option Version) (bytes : List ℕ) → HEADER_LENGTH ≤ length bytes → reading_spec.header_behind v (bytes ++ more) ≡ reading_spec.header_behind v bytes
  same_behind None bytes long = refl
  same_behind (Some v) (a ∷ b ∷ c ∷ d ∷ e ∷ f ∷ g ∷ h ∷ i ∷ j ∷ k ∷ l ∷ rest) long = refl
  same_behind (Some v) _ long = absurd (omega (arith, long))

  same_magic : (bytes : List ℕ) → HEADER_LENGTH ≤ length bytes → reading_spec.field 0 4 (bytes ++ more) ≡ reading_spec.field 0 4 bytes
  same_magic (a ∷ b ∷ c ∷ d ∷ rest) long = refl
  same_magic _ long = absurd (omega (arith, long))

  same_header : header_at (bytes ++ more) ≡ header_at bytes
  unfolding header_at
  same_header = rw (same_magic bytes long, same_behind (reading_spec.version_of (reading_spec.field 0 4 bytes)) bytes long) refl

  pub front_more : front_header_at (bytes ++ more) ≡ record_spec.◌>>=◌ {Y = Header × List ℕ} (front_header_at bytes) (λ x. Ok (x.0, x.1 ++ more))
  unfolding front_header_at
  front_more = grind (arith, le-ltb, length-append bytes more, same_header, drop-append-le HEADER_LENGTH bytes more long)

  abbrev pub and_more : Header × List ℕ → Result (Header × List ℕ) Fault
  and_more x = Ok (x.0, x.1 ++ more)

  -- what follows a header stays behind it
  pub after_more : (seen : List Header) → header_after seen (bytes ++ more) ≡ header_after seen bytes >>= and_more
  unfolding header_after
  after_more seen = grind (arith, front_more)

pub own_bytes : (bytes : List ℕ) → HEADER_LENGTH ≤ length bytes → header_at (take HEADER_LENGTH bytes) ≡ header_at bytes
own_bytes bytes long =
    let all : HEADER_LENGTH ≤ length (take HEADER_LENGTH bytes) = omega (arith, length-take HEADER_LENGTH bytes, long) in
    sym (same_header (take HEADER_LENGTH bytes) (drop HEADER_LENGTH bytes) all) ∙ ap header_at (take-append-drop HEADER_LENGTH bytes)

-- ---- a header that comes after these

pub record IsAfter (seen : List Header) (bytes : List ℕ) (h : Header) (rest : List ℕ) : Type 0 where
  pub front : front_header_at bytes ≡ Ok (h, rest)
  pub group : All (λ s. s.group ≢ h.group) seen
  pub launch : All (λ s. s.launch ≡ h.launch) seen

none_at : {X : Type 0} (p : X → Bool) (xs : List X) (i : ℕ) (d : X) → i < length xs → list_any p xs ≡ false → p (get_or xs i d) ≡ false
none_at p xs i d lt none = grind (arith, list_any_at)

-- a header that none of these has the group of, and that all have the launch of
pub not_seen : (seen : List Header) (h : Header) → All (λ s. s.group ≢ h.group) seen → All (λ s. s.launch ≡ h.launch) seen → unless_seen seen h ≡ Ok h
not_seen seen h other same = grind (arith, list_any_none)

seen_not : (seen : List Header) (h found : Header) → unless_seen seen h ≡ Ok found → (h ≡ found) × All (λ s. s.group ≢ h.group) seen × All (λ s. s.launch ≡ h.launch) seen
seen_not seen h found is = by_tests _ _ refl refl is
  where
    by_tests : (a b : Bool) → list_any (λ s. s.group == h.group) seen ≡ a → list_any (λ s. not (s.launch == h.launch)) seen ≡ b → unless_seen seen h ≡ Ok found → (h ≡ found) × All (λ s. s.group ≢ h.group) seen × All (λ s. s.launch ≡ h.launch) seen
    by_tests true b group launch is = absurd cc
    by_tests false true group launch is = absurd cc
    by_tests false false group launch is = (
      cc,
      λ k d lt. eqb-false _ _ (none_at (λ s. s.group == h.group) seen k d lt group),
      λ k d lt. eqb-true _ _ (not-false _ (none_at (λ s. not (s.launch == h.launch)) seen k d lt launch)),
    )

pub is_after : (seen : List Header) (bytes : List ℕ) (h : Header) (rest : List ℕ) → header_after seen bytes ≡ Ok (h, rest) → IsAfter seen bytes h rest
unfolding header_after
is_after seen bytes h rest is =
    let (x, at, k) = then_ok (at_place (length seen) (front_header_at bytes)) (λ x. unless_seen seen x.0 >>= λ g. Ok (g, x.1)) (h, rest) is in
    let (g, unseen, pair) = then_ok (unless_seen seen x.0) (λ g. Ok (g, x.1)) (h, rest) k in
    let apart = seen_not seen x.0 g unseen in
    let same : x ≡ (h, rest) = ap (λ (y : Header). (y, x.1)) apart.0 ∙ same_ok {E = Fault} (g, x.1) (h, rest) pair in
    subst (λ (y : Header × List ℕ). IsAfter seen bytes y.0 y.1) same (record { front = at_place_ok (length seen) (front_header_at bytes) x at; group = apart.1; launch = apart.2 })

-- ---- what the sizes of groups and the first header tell

-- the group has come: it has its first item
abbrev pub HasCome : List ℕ → ℕ → Type 0
HasCome sizes g = HasItem sizes (record { group = g; item = 0 })

module _ (sizes : List ℕ) (hs : List Header) (seen : AreSeen sizes hs) where
  -- a group has come if a header is of it
  pub group_came : (g : ℕ) → Decides (list_any (λ s. s.group == g) hs) (HasCome sizes g)
  group_came g = (
    λ some.
        let (k, h, lt, is, test) = Any-from_list_any (λ (s : Header). s.group == g) hs some in
        let there = seen.groups.there h (k, lt, is) in
        subst (HasCome sizes) (eqb-true h.group g test) (there.0, omega (arith, there.1, All-contains (λ (s : Header). 0 < s.items) hs h seen.some (k, lt, is))),
    λ has.
        true_from_ne_false _ (λ none.
        let empty = seen.groups.others g (λ h (k, lt, is) same.
        let some = list_any_at (λ (s : Header). s.group == g) hs k h lt (ap (λ (s : Header). s.group == g) is ∙ eq-eqb h.group g same) in
        absurd cc) in
        absurd (omega (arith, has.1, empty))),
  )

-- whether they are of another launch, the first tells
pub first_tells : (sizes : List ℕ) (hs : List Header) → AreSeen sizes hs → (launch : ℕ) (first : Option Header) (b : Bool) → slice_get hs 0 ≡ first → MatchOption first (b ≡ false) (λ h. b ≡ not (h.launch == launch)) → list_any (λ s. not (s.launch == launch)) hs ≡ b
first_tells sizes [] seen launch first b at is = sym (subst (λ o. MatchOption o (b ≡ false) (λ (h : Header). b ≡ not (h.launch == launch))) (sym at) is)
first_tells sizes (h ∷ hs) seen launch first b at is =
    let here : b ≡ not (h.launch == launch) = subst (λ o. MatchOption o (b ≡ false) (λ (h : Header). b ≡ not (h.launch == launch))) (sym at) is in
    elim (cases_Bool (h.launch == launch)) [
      | inl same ↦ rw (here, same) (list_any_none (λ (s : Header). not (s.launch == launch)) hs
          (λ k d lt. ap not (eq-eqb _ launch (sym (seen.launch 0 (suc k) d (omega arith) (omega (arith, lt))) ∙ eqb-true h.launch launch same))))
      | inr other ↦ rw (here, other) refl
    ]
