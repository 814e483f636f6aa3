-- The definitions, tried on small lists.
use Rattle.gr_model.proofs.Common.{◌≡◌, ℕ, zero, suc, ◌<◌, true, false, Option, Some, None, Contains, [], ◌∷◌, refl, sym, ◌∙◌, ap, inl, inr, lit<, option_map, subst, arith, IsTrue}
use Rattle.gr_model.specs.declared.event.Space.TheVariants.{Global, Local}
use Rattle.gr_model.specs.declared.event.Scope.TheVariants.{Group, Device}
use Rattle.gr_model.specs.declared.event.Order.TheVariants.{Acquire, Both, Release}
use Rattle.gr_model.specs.declared.event.Kind.TheVariants.{Load, Rmw, Store}
use Rattle.gr_model.specs.declared.event.Name.{Name}
use Rattle.gr_model.specs.declared.event.Event.{Event}
use Rattle.gr_model.specs.declared.event.EventId.{EventId}
use Rattle.gr_model.specs.declared.event.Word.{Word}
use Rattle.gr_model.specs.declared.event.Word.TheVariants.{Global as GlobalWord, Local as LocalWord}
use Rattle.gr_model.specs.declared.report.AcquireCause.TheVariants.{Absent, OtherWord, Behind}
use Rattle.gr_model.specs.declared.report.DivergenceCause.TheVariants.{Missing}
use Rattle.gr_model.specs.Prelude.{inclusive, IsConvergent, IsDivergent, Together, arrivals, HappensBefore, BasePair, IsInclusive, sequenced, synchronized, behind_barrier, by_pair, through, HasDivergenceCause, Mark, Matches, HasAcquireCause, HasName, IsAbsent, IsOfItsWord, IsCut, Streams, Stage, IsGrounded, Waits, for_release}
use Rattle.gr_model.proofs.Descent.{below_before, stage_descends}
use Rattle.gr_model_tests.specs.Examples.{access, acquire, acquire_of, the_end, release, event, half_there, handed_by_two, handed_over, names_itself, crossed, scopes_differ, two_releases, mixed, waiting, met, the_mark}

-- a write, the release after it, an acquire that names that, and a read
handed : (s : Streams) (group other k : ℕ) → BasePair s Global (event group 0 0) (event group 0 1) → BasePair s Global (event group 0 1) (event other 0 0)
    → BasePair s Global (event other 0 0) (event other 0 k) → HappensBefore s Global (event group 0 0) (event other 0 k)
handed s group other k before handing after = through (through (by_pair before) handing) after

pub write_before_read : HappensBefore handed_over Global (event 0 0 0) (event 1 0 1)
write_before_read =
    handed handed_over 0 1 1 (sequenced refl (lit< tt) (_, refl))
    (synchronized (record { name = release 0 0 0; by = record { named = (0, lit< tt, refl); item = refl; place = refl; word = refl } })
    (record { first = _; second = _; at_first = refl; at_second = refl; word = _; has_word = refl; memory = refl; scopes = refl })) (sequenced refl (lit< tt) (_, refl))

pub second_is_cut : IsCut handed_over 1
second_is_cut = (lit< tt, 2, the_end true, refl, refl)

-- ---- circles

-- what happens before itself is not reached, since each stage that has it has a lower one that has it
held : (s : Streams) (e : EventId) → HappensBefore s Global e e → (bound n : ℕ) → n < bound → Stage s n e → ⊥
held s e round zero n lt h = omega arith
held s e round (suc bound) n lt h = let low = below_before s (Stage s) (stage_descends s) Global e e round n h in held s e round bound low.0 (omega (arith, low.1)) low.2

itself_pair : BasePair names_itself Global (event 0 0 0) (event 0 0 0)
itself_pair =
    synchronized (record { name = release 0 0 0; by = record { named = (0, lit< tt, refl); item = refl; place = refl; word = refl } })
    (record { first = _; second = _; at_first = refl; at_second = refl; word = _; has_word = refl; memory = refl; scopes = refl })

pub itself_is_held : ¬ IsGrounded names_itself (event 0 0 0)
itself_is_held h = held names_itself (event 0 0 0) (by_pair itself_pair) (suc h.0) h.0 (omega arith) h.1

only_name : (m n : Name) → Contains (m ∷ []) n → m ≡ n
only_name m n (zero, within, is) = is
only_name m n (suc k, within, is) = absurd (omega (arith, within))

pub itself_is_behind : HasAcquireCause names_itself (event 0 0 0) Behind
itself_is_behind n named = subst (λ m. IsOfItsWord names_itself (event 0 0 0) m) (only_name (release 0 0 0) n named) (0, refl, refl)

crossed_pair : BasePair crossed Global (event 1 0 1) (event 0 0 0)
crossed_pair =
    synchronized (record { name = release 1 0 0; by = record { named = (0, lit< tt, refl); item = refl; place = refl; word = refl } })
    (record { first = _; second = _; at_first = refl; at_second = refl; word = _; has_word = refl; memory = refl; scopes = refl })

crossed_back : BasePair crossed Global (event 0 0 1) (event 1 0 0)
crossed_back =
    synchronized (record { name = release 0 0 0; by = record { named = (0, lit< tt, refl); item = refl; place = refl; word = refl } })
    (record { first = _; second = _; at_first = refl; at_second = refl; word = _; has_word = refl; memory = refl; scopes = refl })

-- an acquire, the release behind it, and so on in the other item
round : (group other : ℕ) → BasePair crossed Global (event group 0 0) (event group 0 1) → BasePair crossed Global (event group 0 1) (event other 0 0)
    → BasePair crossed Global (event other 0 0) (event other 0 1) → BasePair crossed Global (event other 0 1) (event group 0 0) → ¬ IsGrounded crossed (event group 0 0)
round group other a b c d h = held crossed (event group 0 0) (through (through (through (by_pair a) b) c) d) (suc h.0) h.0 (omega arith) h.1

pub first_is_held : ¬ IsGrounded crossed (event 0 0 0)
first_is_held = round 0 1 (sequenced refl (lit< tt) (_, refl)) crossed_back (sequenced refl (lit< tt) (_, refl)) crossed_pair

pub second_is_held : ¬ IsGrounded crossed (event 1 0 0)
second_is_held = round 1 0 (sequenced refl (lit< tt) (_, refl)) crossed_pair (sequenced refl (lit< tt) (_, refl)) crossed_back

pub ruleset circles = (itself_is_held, itself_is_behind, first_is_held, second_is_held)

-- ---- scopes

pub waits_all_the_same : Waits scopes_differ (event 0 1 0) (event 0 0 0)
waits_all_the_same = for_release (record { name = release 0 0 0; by = record { named = (0, lit< tt, refl); item = refl; place = refl; word = refl } })

same_event : (m n : Event) → Some m ≡ Some n → m ≡ n
same_event m n e = cc

no_scope : (first second : Event) → access 0 (Store Group Release) Global 20 ≡ first → acquire 1 (Load Device Acquire) 20 (release 0 0 0) ≡ second → IsTrue (inclusive first.kind 0 second.kind 0) → ⊥
no_scope first second a b scopes = let no : false ≡ true = (λ i. inclusive (a i).kind 0 (b i).kind 0) ∙ scopes in cc

pub gives_no_pair : ¬ BasePair scopes_differ Global (event 0 0 0) (event 0 1 0)
gives_no_pair (sequenced item below there) = let no : 0 ≡ 1 = λ i. (item i).item in omega (arith, no)
gives_no_pair (synchronized match inc) = no_scope inc.first inc.second (same_event _ inc.first inc.at_first) (same_event _ inc.second inc.at_second) inc.scopes
gives_no_pair (behind_barrier a b flagged together item below there) = absurd (omega (arith, below))

-- ---- releases

zero_is_there : ◌≡◌ {A = Option ℕ} (Some 0) None → ⊥
zero_is_there e = cc

one_is_there : ◌≡◌ {A = Option ℕ} (Some 1) None → ⊥
one_is_there e = cc

other_words : (n : Name) → Contains (release 0 0 1 ∷ []) n → ¬ IsAbsent two_releases n
other_words n named absent = one_is_there (subst (IsAbsent two_releases) (sym (only_name (release 0 0 1) n named)) absent)

twenty_four : ◌≡◌ {A = Option (Option ℕ)} (Some (Some 20)) (Some (Some 24)) → ⊥
twenty_four e = let n : ◌≡◌ {A = ℕ} 20 24 = cc in omega arith

abbrev number_of : Word → Option ℕ
number_of (GlobalWord w) = Some w
number_of (LocalWord g w) = None

pub of_another_word : HasAcquireCause two_releases (event 0 1 0) OtherWord
of_another_word = (other_words, (release 0 0 1, (0, lit< tt, refl), (1, refl, λ same. twenty_four (ap (option_map number_of) same))))

-- ---- several names

pub first_before_read : HappensBefore handed_by_two Global (event 0 0 0) (event 2 0 1)
first_before_read =
    handed handed_by_two 0 2 1 (sequenced refl (lit< tt) (_, refl))
    (synchronized (record { name = release 0 0 0; by = record { named = (0, lit< tt, refl); item = refl; place = refl; word = refl } })
    (record { first = _; second = _; at_first = refl; at_second = refl; word = _; has_word = refl; memory = refl; scopes = refl })) (sequenced refl (lit< tt) (_, refl))

pub second_before_read : HappensBefore handed_by_two Global (event 1 0 0) (event 2 0 2)
second_before_read =
    handed handed_by_two 1 2 2 (sequenced refl (lit< tt) (_, refl))
    (synchronized (record { name = release 1 0 0; by = record { named = (1, lit< tt, refl); item = refl; place = refl; word = refl } })
    (record { first = _; second = _; at_first = refl; at_second = refl; word = _; has_word = refl; memory = refl; scopes = refl })) (sequenced refl (lit< tt) (_, refl))

pub one_is_absent : HasAcquireCause half_there (event 1 0 0) Absent
one_is_absent = (release 0 0 2, (1, lit< tt, refl), refl)

both_there : (n : Name) → HasName half_there (event 2 0 0) n → ¬ IsAbsent half_there n
both_there n (zero, within, is) absent = zero_is_there (subst (IsAbsent half_there) (sym is) absent)
both_there n (suc zero, within, is) absent = one_is_there (subst (IsAbsent half_there) (sym is) absent)
both_there n (suc (suc k), within, is) absent = omega (arith, within)

pub one_is_of_another_word : HasAcquireCause half_there (event 2 0 0) OtherWord
one_is_of_another_word = (both_there, (release 0 0 0, (0, lit< tt, refl), (0, refl, λ same. twenty_four (sym (ap (option_map number_of) same)))))

-- ---- instances

pub mixed_first : IsDivergent mixed 0 0
mixed_first = inl (0, 1, _, _, (lit< tt, refl), (lit< tt, refl), λ same. let sites : 1 ≡ 2 = (λ i. (same i).site) in omega arith)

pub mixed_second : HasDivergenceCause true 2 (arrivals mixed 0 1) Missing
mixed_second = (refl, (0, 1, _, (lit< tt, refl), lit< tt, refl))

pub waiting_is_open : (a : Mark) → ¬ IsConvergent waiting 0 0 a
waiting_is_open a c = let no : None ≡ Some a = c.1 1 (lit< tt) in cc

-- one item has come, and the other has not
came_first : (i : ℕ) (a : Mark) → arrivals waiting 0 0 i ≡ Some a → (i < 2) → i ≡ 0
came_first zero a at lt = refl
came_first (suc zero) a at lt = let no : None ≡ Some a = at in cc
came_first (suc (suc i)) a at lt = absurd (omega arith)

pub waiting_is_not_divergent : ¬ IsDivergent waiting 0 0
waiting_is_not_divergent (inl both) =
    let i : both.0 ≡ 0 = came_first both.0 both.2 both.4.1 both.4.0 in
    let j : both.1 ≡ 0 = came_first both.1 both.3 both.5.1 both.5.0 in
    let same : Some both.2 ≡ Some both.3 = sym both.4.1 ∙ (ap (arrivals waiting 0 0) (i ∙ sym j) ∙ both.5.1) in
    both.6 (let e : both.2 ≡ both.3 = cc in e)
waiting_is_not_divergent (inr missing) = let no : false ≡ true = missing.0 in cc

pub ruleset instances = (mixed_first, mixed_second, waiting_is_open, waiting_is_not_divergent)

-- ---- barriers

pub met_converges : IsConvergent met 0 0 the_mark
met_converges = (lit< tt, came)
  where
    came : (i : ℕ) → i < 2 → arrivals met 0 0 i ≡ Some the_mark
    came zero lt = refl
    came (suc zero) lt = refl
    came (suc (suc i)) lt = absurd (omega arith)

met_together : Together met the_mark (event 0 0 1) (event 0 1 0)
met_together = record {
  group = 0;
  instance = 0;
  convergent = met_converges;
  first = record { group = refl; item = lit< tt; place = refl };
  second = record { group = refl; item = lit< tt; place = refl };
}

pub write_meets_read : HappensBefore met Local (event 0 0 0) (event 0 1 1)
write_meets_read = through (by_pair (sequenced refl (lit< tt) (_, refl))) (behind_barrier the_mark (event 0 1 0) refl met_together refl (lit< tt) (_, refl))
