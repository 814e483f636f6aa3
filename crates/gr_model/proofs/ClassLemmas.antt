-- What a class keeps of a kind.
use Rattle.gr_model.proofs.Common.{arith, rules}
use Rattle.gr_model.specs.Prelude.{ClassesTellModifies, ClassesTellScopes, ExemptionIsOfKinds}

modifies_told : ClassesTellModifies
modifies_told k a e = search rules

scopes_told : ClassesTellScopes
scopes_told k a e = search rules

pub exemption_told : ExemptionIsOfKinds
exemption_told k l a b g h is_a is_b =
    rw (modifies_told k a is_a, modifies_told l b is_b, scopes_told k a is_a, scopes_told l b is_b) (grind arith)
