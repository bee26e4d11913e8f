use Rattle.std.proofs.Common.{◌≡◌, ℕ, not, List, sym, ap, ◌∙◌, option_map, Option}
use Rattle.std.specs.Prelude.{filter_map}
use Rattle.cil_model.specs.Chains.{classes_searched}
use Rattle.name_tables.specs.declared.ids.MethodId.{MethodId}
use Rattle.name_tables.specs.Keys.{class_of_key, method_of_key, method_name_of, reference_of_keys}
use Rattle.name_tables.specs.Numbers.{nearest_number, index_in, class_number, method_at, method_number}
use Rattle.name_tables.specs.Sameness.{same_call_identity, call_identity_of}
use Rattle.name_tables.proofs.Lists.{option_map_of_map}
use Rattle.name_tables.proofs.NumberLaws.{method_has_id}
use Rattle.name_tables.proofs.lookups.NameTables.find_call.Goals as goal

pub returns-in-None : goal.returns-in-None
returns-in-None c =
    let t = c.args.self.now.classes.tree.now in
    let o = class_of_key c.args.owner in
    let search_in : List ℕ → Option (ℕ × ℕ) = λ ns. nearest_number (index_in (λ d. d.methods) (λ m. same_call_identity (method_of_key c.args.method, not c.args.is_instance) (call_identity_of m)) t) ns in
    let e : option_map (λ (m : MethodId). (m.class, m.index)) c.own_call.result ≡ method_number t c.args.is_instance (reference_of_keys c.args.owner c.args.method) =
    c.own_call.ensures ∙ sym (ap (λ n. search_in (filter_map (class_number t) (classes_searched t (method_name_of (option_map (λ x. x.now) n)) o))) c.in-None.is) in
    record {
      number = e;
      member = sym (option_map_of_map (λ (m : MethodId). (m.class, m.index)) (method_at t) c.own_call.result) ∙ ap (option_map (method_at t)) e ∙ method_has_id t c.args.is_instance (reference_of_keys c.args.owner c.args.method);
    }

pub returns-in-Some : goal.returns-in-Some
returns-in-Some c =
    let t = c.args.self.now.classes.tree.now in
    let o = class_of_key c.args.owner in
    let search_in : List ℕ → Option (ℕ × ℕ) = λ ns. nearest_number (index_in (λ d. d.methods) (λ m. same_call_identity (method_of_key c.args.method, not c.args.is_instance) (call_identity_of m)) t) ns in
    let e : option_map (λ (m : MethodId). (m.class, m.index)) c.nearest_call.result ≡ method_number t c.args.is_instance (reference_of_keys c.args.owner c.args.method) =
    c.nearest_call.ensures ∙ sym (ap (λ n. search_in (filter_map (class_number t) (classes_searched t (method_name_of (option_map (λ x. x.now) n)) o))) c.in-Some.is) in
    record {
      number = e;
      member = sym (option_map_of_map (λ (m : MethodId). (m.class, m.index)) (method_at t) c.nearest_call.result) ∙ ap (option_map (method_at t)) e ∙ method_has_id t c.args.is_instance (reference_of_keys c.args.owner c.args.method);
    }
