-- What is kept where a group comes.
use Rattle.gr_model.proofs.Common.{◌≡◌, ◌↔◌, ℕ, ◌<◌, List, [], length, not, filter, refl, sym, ap, ◌∙◌, subst, arith, get_or_past}
use Rattle.std.proofs.Math.ListN.{get_or-map}
use Rattle.gr_model.specs.Prelude.{is_end, IsIn, CanAdd, put, ArePrefixes, Streams}
use Rattle.gr_model.specs.Groups as model
use Rattle.gr_model.proofs.GroupLaws.{group_grows, list_stays, prefixes_with_group}
use Rattle.gr_steps.proofs.StepGrowth.{lawful_grows}
use Rattle.gr_clocks.specs.Counts.{AddsCounts, Counts, count_of}
use Rattle.gr_windows.specs.Windows.{AddsItems, Table}
use Rattle.gr_order.specs.Sequences.{Sequence}
use Rattle.gr_order.specs.Waiting.{IsKept}
use Rattle.gr_order.proofs.SumLemmas.{items_put, items_same, sum_put_again}

module _ {q : Sequence} {frontier : Counts} {windows : Table} {held : ℕ} (kept : IsKept q frontier windows held) (g n : ℕ) (can : CanAdd q.taken g n) where
  prefixes : ArePrefixes q.taken
  prefixes = kept.state.sequence.prefixes

  module _ (new : Streams) (is : new ≡ model.with_group q.taken g n) (counts : Counts) (adds : AddsCounts frontier g n counts) (waiting : Table) (more : AddsItems windows g n waiting) where
    pub kept_with_group : IsKept (record { taken = new; handled = q.handled }) counts waiting held
    kept_with_group = subst (λ (s : Streams). IsKept (record { taken = s; handled = q.handled }) counts waiting held) (sym is) (record {
      state = record {
        sequence = record {
          prefixes = prefixes_with_group q.taken g n prefixes can;
          lawful = lawful_grows q.taken (model.with_group q.taken g n) (group_grows q.taken g n prefixes can) q.handled kept.state.sequence.lawful;
        };
        shape = adds.shape ∙ ap (λ (l : List ℕ). put 0 l g n) kept.state.shape;
        first = λ e. subst (λ m. IsIn q.handled e ↔ (e.index < m)) (sym (adds.counts e.at)) (kept.state.first e);
        counts = items_same (count_of frontier) (count_of counts) (put 0 q.taken.sizes g n) (λ i has. adds.counts i) ∙ (items_put (count_of frontier) q.taken.sizes g n can.none (λ k. grind (arith, get_or_past, get_or-map length frontier g [], kept.state.shape, can.none)) ∙ kept.state.counts);
        rest = omega (arith, kept.state.rest, sum_put_again (λ list. length (filter (λ x. not (is_end x)) list)) q.taken.lists g refl);
      };
      waits = record {
        shape = more.shape ∙ ap (λ (l : List ℕ). put 0 l g n) kept.waits.shape;
        each = λ i. grind (arith, more.each i, kept.waits.each i, adds.counts i, list_stays q.taken g n i.group);
      };
    })
