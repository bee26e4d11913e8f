-- Well-formed content (XML 1.0).
use Rattle.std.specs.Prelude.{◌≡◌, ◌++◌, ◌⊎◌, ℕ, Bool, true, false, List, [], Option, Some, None, option_map}
use Rattle.svg_text.specs.declared.markup.Attribute.{Attribute}
use Rattle.svg_text.specs.declared.markup.Tag.{Tag}
use Rattle.svg_text.specs.declared.markup.Tag.TheVariants.{Svg}
use Rattle.svg_text.specs.Elements.{element_text, empty_text, escape}

-- words and elements, one after another, each element with content in it or with nothing
pub data IsContent : List ℕ → Type 0 where
  nothing : IsContent []
  words : (bytes : List ℕ) → IsContent (escape bytes)
  empty : (tag : Tag) (attributes : List Attribute) → IsContent (empty_text tag attributes)
  element : (tag : Tag) (attributes : List Attribute) (inside : List ℕ) → IsContent inside → IsContent (element_text tag attributes inside)
  both : (first second : List ℕ) → IsContent first → IsContent second → IsContent (first ++ second)

-- one element, with content in it
abbrev pub IsDocument : List ℕ → Type 0
IsDocument text = (attributes : List Attribute) × (inside : List ℕ) × IsContent inside × (text ≡ element_text Svg attributes inside)

-- text is added, unless memory ran out; then all is lost
abbrev pub Adds : Option (List ℕ) → Option (List ℕ) → List ℕ → Type 0
Adds old new more = (new ≡ None) ⊎ (new ≡ option_map (λ text. text ++ more) old)

-- the text of content, which is lost where it is not whole
abbrev pub text_if_whole : Bool → List ℕ → Option (List ℕ)
text_if_whole true text = Some text
text_if_whole false text = None

-- what is whole is well formed
abbrev pub IsFormed : Bool → List ℕ → Type 0
IsFormed whole text = whole ≡ true → IsContent text

-- what is made of other content is added; all is lost where that was
abbrev pub AddsIfWhole : Option (List ℕ) → Option (List ℕ) → Option (List ℕ) → (List ℕ → List ℕ) → Type 0
AddsIfWhole old new None made = new ≡ None
AddsIfWhole old new (Some inside) made = Adds old new (made inside)
