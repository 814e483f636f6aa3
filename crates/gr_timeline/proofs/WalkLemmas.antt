-- Chains that grow by a link, and the items that a walk has visited.
use Rattle.gr_model.proofs.Common.{◌≡◌, ℕ, suc, ◌<◌, List, [], ◌∷◌, ◌++◌, length, Option, Some, slice_get, refl, inl, inr, ⊎_elim, arith, ◌↔◌, Bool, false, IsTrue, true≢false, ◌-◌, None, sym, ap, ◌∙◌, IfSome, gets, cases_eq, common_steps}
use Rattle.gr_timeline.specs.Types.{EventId, Link, Reason, Circle, ItemId}
use Rattle.gr_model.specs.Prelude.{Streams, ArePrefixes, HasItem}
use Rattle.gr_model.proofs.Places.{slice_get-append}
use Rattle.gr_explain.proofs.Lists.{last_cases}
use Rattle.gr_timeline.specs.Chains.{IsChainTo, IsReason, Lead, event_of, leads_to}
use Rattle.gr_timeline.specs.Waiting.{IsHeldEvent, IsFirstHeld}
use Rattle.gr_model.proofs.Cuts.{same_event}
use Rattle.gr_clocks.specs.Counts.{Counts, IsTick, count_of}
use Rattle.gr_order.proofs.StateLemmas.{item_cases, tick_here, tick_there}
use Rattle.gr_order.proofs.SumLemmas.{item_more}
use Rattle.gr_steps.proofs.EventRecords.{group_of_event, item_of_event}
use Rattle.gr_timeline.specs.Walks.{AreVisited, IsLinked, unvisited}

-- a link for an event
abbrev link_of : EventId → Reason → Link
link_of e r = record { event = e; reason = r }

-- the events of links stay if more follow
pub event_stays : (links more : List Link) (k : ℕ) (e : EventId) → event_of links k ≡ Some e → event_of (links ++ more) k ≡ Some e
event_stays links more k e at = grind (arith, gets, slice_get-append)

-- a link that has an event is there
pub event_within : (links : List Link) (k : ℕ) (e : EventId) → event_of links k ≡ Some e → k < length links
event_within links k e at = grind (arith, gets)

-- what is so of each link of a list and of one after them
pushed_each : {X : Type 0} (P : ℕ → X → Type 0) (xs : List X) (x : X) → ((p : ℕ) (l : X) → slice_get xs p ≡ Some l → P p l) → P (length xs) x → (p : ℕ) (l : X) → slice_get (xs ++ x ∷ []) p ≡ Some l → P p l
pushed_each P xs x each last p l at = elim (last_cases xs x p l at) [ inl h ↦ each p l h.1 | inr h ↦ rw (h.0, h.1) last ]

module _ (s : Streams) where
  -- and so do their reasons
  pub reason_stays : (links more : List Link) (p : ℕ) (e : EventId) (r : Reason) → IsReason s links p e r → IsReason s (links ++ more) p e r
  reason_stays links more p e (Circle k) is = (is.0, event_stays links more k e is.1)
  reason_stays links more p e r is = is

  lead_more : (from : Option EventId) (links : List Link) (e : EventId) (r : Reason) → Lead from links (Some e) → Lead from (links ++ link_of e r ∷ []) (leads_to r)
  lead_more from [] e r leads = (leads, refl)
  lead_more from (l ∷ links) e r leads = (leads.0, lead_more (leads_to l.reason) links e r leads.1)

  -- a chain that leads to a held event, and a link of it
  pub chain_more : (e d : EventId) (links : List Link) (r : Reason) → IsHeldEvent s d → IsReason s links (length links) d r → IsChainTo s e links (Some d) → IsChainTo s e (links ++ link_of d r ∷ []) (leads_to r)
  chain_more e d links r held reason chain = record {
    leads = lead_more (Some e) links d r chain.leads;
    held = pushed_each (λ p l. IsHeldEvent s l.event) links (link_of d r) chain.held held;
    reason = pushed_each (λ p l. IsReason s (links ++ link_of d r ∷ []) p l.event l.reason) links (link_of d r)
        (λ p l at. reason_stays links (link_of d r ∷ []) p l.event l.reason (chain.reason p l at))
        (reason_stays links (link_of d r ∷ []) (length links) d r reason);
  }

module _ (s : Streams) where
  -- an item has one first held event
  one_first : (d e : EventId) → IsFirstHeld s d → IsFirstHeld s e → d.at ≡ e.at → d ≡ e
  one_first d e a b at = grind (arith, same_event d e at, a.held, b.held, a.passed e, b.passed d)

  -- an event at which the walk was before has a link
  pub linked : (links : List Link) (e : EventId) → IsFirstHeld s e → IsLinked s links e.at → (k : ℕ) × (event_of links k ≡ Some e)
  linked links e first is = (is.place, is.linked ∙ ap Some (one_first is.event e is.first first is.item))

  pub linked_stays : (links more : List Link) (i : ItemId) → IsLinked s links i → IsLinked s (links ++ more) i
  linked_stays links more i is = record { place = is.place; event = is.event; item = is.item; first = is.first; linked = event_stays links more is.place is.event is.linked }

  pub visited_stays : (links more : List Link) (visited : Counts) → AreVisited s links visited → AreVisited s (links ++ more) visited
  visited_stays links more visited are = record { shape = are.shape; each = λ i some. linked_stays links more i (are.each i some) }

  module _ (e : EventId) (held : IsHeldEvent s e) (first : IsFirstHeld s e) (links : List Link) (before after : Counts) (are : AreVisited s links before) (tick : IsTick before e.at after) where
    pub one_visited : (r : Reason) → AreVisited s (links ++ (record { event = e; reason = r }) ∷ []) after
    one_visited r = record {
      shape = tick.shape ∙ are.shape;
      each = λ i some. ⊎_elim
          (λ (here : e.at ≡ i). record { place = length links; event = e; item = here; first = first; linked = grind (arith, common_steps, gets) })
          (λ (apart : e.at ≡ i → ⊥). linked_stays links ((record { event = e; reason = r }) ∷ []) i (are.each i (let none = tick_there e.at i apart in let counts = tick.counts i in omega (arith, some, none, counts))))
          (item_cases e.at i);
    }

    pub fewer : ArePrefixes s → count_of before e.at ≡ 0 → unvisited after s.sizes < unvisited before s.sizes
    fewer prefixes fresh =
        let has : HasItem s.sizes e.at = (group_of_event s prefixes e held.event.0 held.event.1, item_of_event s prefixes e held.event.0 held.event.1) in
        let sum = item_more (λ i. 1 - count_of after i) (λ i. 1 - count_of before i) s.sizes e.at has
        (let one = tick_here e.at e.at refl in let counts = tick.counts e.at in omega (arith, one, counts, fresh))
        (λ j apart. let none = tick_there e.at j apart in let counts = tick.counts j in omega (arith, none, counts)) in
        omega (arith, sum)

pub zero_if : (b : Bool) (n : ℕ) → IsTrue b ↔ (0 < n) → b ≡ false → n ≡ 0
zero_if b n is unset = ⊎_elim (λ (same : n ≡ 0). same) (λ (some : n ≡ 0 → ⊥). absurd (true≢false (sym (is.1 (omega (arith, some))) ∙ unset))) (cases_eq n 0)

pub if_some_all : {X : Type 0} (Q : Type 0) (o : Option X) → Q → IfSome o (λ x. Q)
if_some_all Q None q = tt
if_some_all Q (Some x) q = q

-- how many steps a walk can still make
abbrev pub steps_left : Counts → List ℕ → Option EventId → ℕ
steps_left visited sizes None = 0
steps_left visited sizes (Some e) = suc (unvisited visited sizes)
