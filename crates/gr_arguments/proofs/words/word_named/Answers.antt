use Rattle.gr_model.proofs.Common.{◌≡◌, ℕ, List, codes, true}
use Rattle.gr_model.specs.declared.event.Word.{Word}
use Rattle.gr_model.specs.declared.event.Word.TheVariants.{Global, Local}
use Rattle.gr_arguments.specs.Naming.{IsGroupOf, Names}
use Rattle.gr_arguments.proofs.words.word_named.Goals as goal

unnamed : (space number : List ℕ) → (space ≡ codes "g" → ⊥) → ((g : ℕ) → IsGroupOf space g → ⊥) → (w : Word) → Names space number w → ⊥
unnamed space number no_global no_group (Global n) named = no_global named.0
unnamed space number no_global no_group (Local g n) named = no_group g named.0

pub returns-in_err-group_of : goal.returns-in_err-group_of
returns-in_err-group_of c =
    let no_global : c.args.space.now ≡ codes "g" → ⊥ = λ e. let yes : c.eq.result ≡ true = rw e at c.eq.ensures in absurd cc in
    rw c.from_residual-in_err-group_of.ensures (unnamed c.args.space.now c.args.number.now no_global c.in_err-group_of.ensures)
