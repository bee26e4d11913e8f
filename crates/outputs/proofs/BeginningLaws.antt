-- Bytes that were taken, one piece after another.
use Rattle.std.proofs.Common.{◌≡◌, ◌+◌, ◌-◌, ◌<◌, flat_map, get_or, ℕ, List, [], ◌++◌, Option, refl, sym, ap, subst, ◌∙◌, length, take, drop, append_assoc, take-append-drop}
use Rattle.std.proofs.lemmas.Grind.{flat_map-append}
use Rattle.std.proofs.lemmas.List.{drop_more, take_rest}
use Rattle.std.proofs.KnownBytes.{Appends-nil, Appends-trans}
use Rattle.std.specs.Io.KnownBytes.{Appends}
use Rattle.outputs.specs.Beginnings.{AppendsBeginning}

-- a writer has taken all but the rest of these bytes
pub record TakenButFor (old new : Option (List ℕ)) (whole rest : List ℕ) : Type 0 where
  pub done : List ℕ
  pub split : whole ≡ done ++ rest
  pub appended : Appends old new done

pub taken_more : (a b c : Option (List ℕ)) (whole rest : List ℕ) (n : ℕ) → TakenButFor a b whole rest → Appends b c (take n rest) → TakenButFor a c whole (take (length rest - n) (drop n rest))
taken_more a b c whole rest n h more =
    record {
      done = h.done ++ take n rest;
      split = h.split ∙ ap (λ l. h.done ++ l) (sym (take-append-drop n rest)) ∙ sym (append_assoc h.done (take n rest) (drop n rest))
          ∙ ap (λ l. (h.done ++ take n rest) ++ l) (sym (take_rest rest n));
      appended = Appends-trans a b c h.done (take n rest) h.appended more;
    }

-- ---- beginnings

pub begins_nothing : (old : Option (List ℕ)) (whole : List ℕ) → AppendsBeginning old old whole
begins_nothing old whole = ([], (whole, refl), Appends-nil old)

-- a beginning of the first piece begins both
pub begins_first : (old new : Option (List ℕ)) (first more : List ℕ) → AppendsBeginning old new first → AppendsBeginning old new (first ++ more)
begins_first old new first more h =
    let (part, (rest, split), appended) = h in
    (part, (rest ++ more, ap (λ l. l ++ more) split ∙ append_assoc part rest more), appended)

-- so do the first piece and a beginning of the second
pub begins_second : (a b c : Option (List ℕ)) (first more : List ℕ) → Appends a b first → AppendsBeginning b c more → AppendsBeginning a c (first ++ more)
begins_second a b c first more h k =
    let (part, (rest, split), appended) = k in
    (first ++ part, (rest, ap (λ l. first ++ l) split ∙ sym (append_assoc first part rest)), Appends-trans a b c first part h appended)

-- so do all pieces before one and a prefix of that one
pub begins_piece : {X : Type 0} (bytes : X → List ℕ) (pieces : List X) (i : ℕ) (d : X) (a b c : Option (List ℕ)) → i < length pieces
    → Appends a b (flat_map bytes (take i pieces)) → AppendsBeginning b c (bytes (get_or pieces i d)) → AppendsBeginning a c (flat_map bytes pieces)
begins_piece bytes pieces i d a b c below h k =
    let before = flat_map bytes (take i pieces) in
    let after = flat_map bytes (drop (i + 1) pieces) in
    let split : flat_map bytes pieces ≡ before ++ (bytes (get_or pieces i d) ++ after) =
    ap (flat_map bytes) (sym (take-append-drop i pieces)) ∙ flat_map-append bytes (take i pieces) (drop i pieces)
    ∙ ap (λ rest. before ++ flat_map bytes rest) (drop_more pieces i d below) in
    subst (AppendsBeginning a c) (sym split) (begins_second a b c before (bytes (get_or pieces i d) ++ after) h (begins_first b c (bytes (get_or pieces i d)) after k))
