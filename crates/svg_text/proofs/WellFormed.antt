-- Content that is well formed.
use Rattle.std.proofs.Common.{◌∷◌, append-nil, append_assoc, codes, ◌≡◌, ◌++◌, ℕ, Bool, true, false, List, [], Option, sym, ap, subst, ◌∙◌}
use Rattle.std.proofs.Math.Logic.{∥∥₁_elim, ∥∥₁_map, ∥∥₁_prop}
use Rattle.svg_text.specs.Contents.{Adds, AddsIfWhole, IsContent, IsDocument, IsFormed, both, element, empty, nothing, text_if_whole, words}
use Rattle.svg_text.specs.declared.markup.Attribute.{Attribute}
use Rattle.svg_text.specs.declared.markup.Tag.{Tag}
use Rattle.svg_text.specs.declared.markup.Tag.TheVariants.{Path, Svg}
use Rattle.svg_text.specs.Elements.{attribute_text, attributes_text, element_text, empty_text, escape, name_text, tag_text, value_text}

-- the pieces of an element, as they are written
abbrev pub pieces : Tag → List Attribute → List ℕ → List ℕ
pieces tag attributes inside = 60 ∷ ((tag_text tag ++ attributes_text attributes) ++ (62 ∷ (inside ++ (60 ∷ 47 ∷ (tag_text tag ++ (62 ∷ 10 ∷ []))))))

pub made_of_pieces : (tag : Tag) (attributes : List Attribute) (inside : List ℕ) → pieces tag attributes inside ≡ element_text tag attributes inside
made_of_pieces tag attributes inside = simp append_assoc

-- what stands before and after the data of a path
abbrev pub path_before : Attribute → Attribute → Attribute → List ℕ
path_before first second third = codes "<path" ++ attribute_text first ++ attribute_text second ++ codes " " ++ name_text third.name ++ codes "=\""

abbrev pub path_after : List ℕ
path_after = codes "\"/>\n"

split : (start first second space name quote value close end : List ℕ) →
    (start ++ (first ++ (second ++ (((((space ++ name) ++ quote) ++ value) ++ close) ++ [])))) ++ end ≡ (((((start ++ first) ++ second) ++ space) ++ name) ++ quote) ++ value ++ (close ++ end)
split start first second space name quote value close end = simp (append_assoc, append-nil)

pub made_of_data : (first second third : Attribute) → empty_text Path (first ∷ second ∷ third ∷ []) ≡ path_before first second third ++ value_text third.value ++ path_after
made_of_data first second third = split (codes "<path") (attribute_text first) (attribute_text second) (codes " ") (name_text third.name) (codes "=\"") (value_text third.value) (codes "\"") (codes "/>\n")

pub formed_nothing : ∥ IsFormed true [] ∥₁
formed_nothing = ∣ (λ h. nothing) ∣₁

pub formed_lost : (text : List ℕ) → ∥ IsFormed false text ∥₁
formed_lost text = ∣ (λ h. absurd (cc)) ∣₁

pub formed_empty : (tag : Tag) (attributes : List Attribute) (piece : List ℕ) → piece ≡ empty_text tag attributes → ∥ IsContent piece ∥₁
formed_empty tag attributes piece e = ∣ subst (λ x. IsContent x) (sym e) (empty tag attributes) ∣₁

pub formed_words : (tag : Tag) (attributes : List Attribute) (bytes piece : List ℕ) → piece ≡ element_text tag attributes (escape bytes) → ∥ IsContent piece ∥₁
formed_words tag attributes bytes piece e = ∣ subst (λ x. IsContent x) (sym e) (element tag attributes (escape bytes) (words bytes)) ∣₁

pub machine_state_of_whole : (whole : Bool) (text piece : List ℕ) → whole ≡ true → piece ≡ text → ∥ IsFormed whole text ∥₁ → ∥ IsContent piece ∥₁
machine_state_of_whole whole text piece e same h = ∥∥₁_map h (λ formed. subst (λ x. IsContent x) (sym same) (formed e))

pub formed_around : (whole : Bool) (text : List ℕ) (tag : Tag) (attributes : List Attribute) (piece : List ℕ) → whole ≡ true → piece ≡ element_text tag attributes text → ∥ IsFormed whole text ∥₁ → ∥ IsContent piece ∥₁
formed_around whole text tag attributes piece e same h = ∥∥₁_map h (λ formed. subst (λ x. IsContent x) (sym same) (element tag attributes text (formed e)))

-- what is whole, with a piece more
pub formed_more : (whole : Bool) (old piece new : List ℕ) → new ≡ old ++ piece → ∥ IsContent piece ∥₁ → ∥ IsFormed whole old ∥₁ → ∥ IsFormed whole new ∥₁
formed_more whole old piece new e h k = ∥∥₁_elim h ∥∥₁_prop (λ content. ∥∥₁_map k (λ formed is. subst (λ x. IsContent x) (sym e) (both old piece (formed is) content)))

pub adds_made : (old new inside : Option (List ℕ)) (whole : Bool) (text piece : List ℕ) (made : List ℕ → List ℕ) → text_if_whole whole text ≡ inside → whole ≡ true → piece ≡ made text → Adds old new piece →
    AddsIfWhole old new inside made
adds_made old new inside whole text piece made view is same adds =
    subst (λ i. AddsIfWhole old new i made) (ap (λ w. text_if_whole w text) (sym is) ∙ view) (subst (Adds old new) same adds)

pub document_formed : (whole : Bool) (text : List ℕ) (attributes : List Attribute) (document : List ℕ) → whole ≡ true → document ≡ element_text Svg attributes text → ∥ IsFormed whole text ∥₁ → ∥ IsDocument document ∥₁
document_formed whole text attributes document is same h = ∥∥₁_map h (λ formed. (attributes, text, formed is, same))
