use Rattle.gr_model.proofs.Common.{◌≢◌, ◌∷◌, ℕ, List, arith}
use Rattle.std.proofs.lemmas.Str.Pattern.{strip_prefix_char}
use Rattle.gr_arguments.proofs.words.group_of.Goals as goal

pub returns-in_err-strip_prefix : goal.returns-in_err-strip_prefix
returns-in_err-strip_prefix c =
    let other : (rest : List ℕ) → c.args.space.now ≢ 108 ∷ rest = rw c.in_err-strip_prefix.was at (strip_prefix_char 108 c.args.space.now c.strip_prefix.result c.strip_prefix.ensures.cases (omega arith)) in
    rw c.from_residual.ensures (λ g is. other is.number is.spelled)
