use Rattle.std.proofs.Common.{◌≡◌, None, Some, length, unwrap_or, sym, ap, ◌∙◌}
use Rattle.std.specs.List.{position_from}
use Rattle.std.proofs.lemmas.List.{length-map}
use Rattle.name_tables.specs.Keys.{method_of_key}
use Rattle.name_tables.specs.Sameness.{MethodIdentity, same_identity, identity_of}
use Rattle.name_tables.specs.declared.keys.MethodKey.{MethodKey}
use Rattle.name_tables.proofs.NumberLaws.{position_from-map}
use Rattle.resolved_code.specs.Identities.{identities}
use Rattle.resolved_code.proofs.identities.Identities.number.Goals as goal

pub returns-in-None : goal.returns-in-None
returns-in-None c =
    let s = c.args.self.now in
    let ks = identities s.tree.now in
    let k = identity_of c.args.method.now in
    let found : position_from (same_identity k) 0 ks ≡ None =
    sym (ap (position_from (same_identity k) 0) s.keys_are) ∙ position_from-map method_of_key (same_identity k) 0 s.keys ∙
    ap (λ (q : MethodIdentity). position_from (λ (x : MethodKey). same_identity q (method_of_key x)) 0 s.keys) (sym c.new-key.ensures) ∙ sym c.first.ensures ∙ c.in-None.is in
    let counted : length c.keys.result.now ≡ length ks = ap length c.keys.ensures ∙ sym (length-map s.keys method_of_key) ∙ ap length s.keys_are in
    counted ∙ sym (ap (λ o. unwrap_or o (length ks)) found)

pub returns-in-Some : goal.returns-in-Some
returns-in-Some c =
    let s = c.args.self.now in
    let ks = identities s.tree.now in
    let k = identity_of c.args.method.now in
    let found : position_from (same_identity k) 0 ks ≡ Some c.in-Some.index =
    sym (ap (position_from (same_identity k) 0) s.keys_are) ∙ position_from-map method_of_key (same_identity k) 0 s.keys ∙
    ap (λ (q : MethodIdentity). position_from (λ (x : MethodKey). same_identity q (method_of_key x)) 0 s.keys) (sym c.new-key.ensures) ∙ sym c.first.ensures ∙ c.in-Some.is in
    sym (ap (λ o. unwrap_or o (length ks)) found)
