-- The streams of a launch are of different groups, so of each group there is one receipt.
use Rattle.gr_model.proofs.Common.{◌≡◌, ◌≢◌, ℕ, zero, suc, List, [], ◌∷◌, length, Contains, refl, sym, ap, ◌∙◌, subst, arith, eq-eqb, ne_eqb, ◌==◌, filter}
use Rattle.gr_detector.specs.Refusals.{IsHandedBack}
use Rattle.gr_detector.specs.Runs.{IsEachOnce, Run}
use Rattle.gr_streams.specs.Types.{FinishError, Header}
use Rattle.gr_detector.specs.declared.error.FinishError.TheVariants.{Memory as NoMemory, Receipts}
use Rattle.gr_route.specs.IntakeSeats.{Seat}
use Rattle.gr_streams.specs.Headers.{AreApart, AreHeadersOf}
use Rattle.gr_streams.specs.Streams.{IsWantOfMemory}
use Rattle.gr_streams.proofs.JoinLemmas.{apart_head, apart_tail}
use Rattle.gr_streams.proofs.LaunchLemmas.{cons_is, groups_of, header_groups, header_in}

-- the receipts of a group
abbrev of_group : ℕ → List Seat → List Seat
of_group g rs = filter (λ (r : Seat). r.group == g) rs

-- a group without a header has no receipt
none_of : (hs : List Header) (rs : List Seat) → groups_of rs ≡ header_groups hs → (g : ℕ) → ((h : Header) → Contains hs h → h.group ≢ g) → length (of_group g rs) ≡ 0
none_of [] [] same g other = refl
none_of (h ∷ hs) (r ∷ rs) same g other =
    rw (ne_eqb r.group g (λ is. other h (0, omega arith, refl) (sym ((cons_is _ _ _ _ same).0) ∙ is)))
    (none_of hs rs (cons_is _ _ _ _ same).1 g (λ x in_hs. other x (suc in_hs.0, omega (arith, in_hs.1), in_hs.2)))
none_of _ _ same g other = absurd cc

-- a group with a header has one receipt
one_of : (hs : List Header) (rs : List Seat) → AreApart hs → groups_of rs ≡ header_groups hs → (h : Header) → Contains hs h → length (of_group h.group rs) ≡ 1
one_of [] rs apart same h (k, lt, is) = absurd (omega (arith, lt))
one_of (x ∷ hs) [] apart same h in_hs = absurd cc
one_of (x ∷ hs) (r ∷ rs) apart same h (zero, lt, is) =
    let here : x.group ≡ h.group = ap (λ (y : Header). y.group) is in
    rw (eq-eqb r.group h.group ((cons_is _ _ _ _ same).0 ∙ here))
    (ap suc (none_of hs rs (cons_is _ _ _ _ same).1 h.group (λ y in_hs e. apart_head x hs apart y in_hs (e ∙ sym here))))
one_of (x ∷ hs) (r ∷ rs) apart same h (suc k, lt, is) =
    let in_hs : Contains hs h = (k, omega (arith, lt), is) in
    rw (ne_eqb r.group h.group (λ e. apart_head x hs apart h in_hs (sym e ∙ (cons_is _ _ _ _ same).0)))
    (one_of hs rs (apart_tail x hs apart) (cons_is _ _ _ _ same).1 h in_hs)

-- so each group of the launch has one receipt
pub each_once : (hs : List Header) (sizes : List ℕ) (rs : List Seat) → AreApart hs → AreHeadersOf hs sizes → groups_of rs ≡ header_groups hs → IsEachOnce (length sizes) rs
each_once hs sizes rs apart launch same g lt =
    let has = launch.1.there g (omega (arith, lt, ap length launch.2)) in
    subst (λ n. length (of_group n rs) ≡ 1) has.2 (one_of hs rs apart same has.0.header (header_in hs has.0 has.1))

-- a run that is finished with these receipts does not give them back
pub only_memory : {A : Type 0} (run : Run) (rs : List Seat) → IsEachOnce (length run.sizes) rs → (e : FinishError A) → IsHandedBack run rs e → IsWantOfMemory e
only_memory run rs once (Receipts r v) (same, all, not_once) = absurd (not_once once)
only_memory run rs once NoMemory given = tt
