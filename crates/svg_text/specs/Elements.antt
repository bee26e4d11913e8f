-- Elements of SVG as text (XML 1.0).
use Rattle.std.specs.Prelude.{◌==◌, ◌&&◌, ◌++◌, if◌then◌else◌, nat_le, ℕ, Bool, List, [], ◌∷◌, codes, decimal}
use Rattle.std.specs.List.{flat_map}
use Rattle.svg_text.specs.declared.markup.Attribute.{Attribute}
use Rattle.svg_text.specs.declared.markup.Name.{Name}
use Rattle.svg_text.specs.declared.markup.Name.TheVariants.{Class, CenterX, CenterY, Data, Fill, Height, Namespace, PreserveAspectRatio, Radius, Stroke, Transform, ViewBox, Width, X, Y}
use Rattle.svg_text.specs.declared.markup.Tag.{Tag}
use Rattle.svg_text.specs.declared.markup.Tag.TheVariants.{Circle, Path, Rect, Style, Svg, Text, Title}
use Rattle.svg_text.specs.declared.markup.Value.{Value}
use Rattle.svg_text.specs.declared.markup.Value.TheVariants.{Number, Words}

-- ---- words

-- from the space to the tilde
abbrev pub is_printable : ℕ → Bool
is_printable c = nat_le 32 c && nat_le c 126

-- a byte of words: what would be taken for markup by its reference, and what is not printable as a question mark
abbrev pub escaped_byte : ℕ → List ℕ
escaped_byte c =
    if c == 38 then codes "&amp;"
    else if c == 60 then codes "&lt;"
    else if c == 62 then codes "&gt;"
    else if c == 34 then codes "&quot;"
    else if is_printable c then c ∷ []
    else codes "?"

abbrev pub escape : List ℕ → List ℕ
escape words = flat_map escaped_byte words

-- ---- names

abbrev pub tag_text : Tag → List ℕ
tag_text Circle = codes "circle"
tag_text Path = codes "path"
tag_text Rect = codes "rect"
tag_text Style = codes "style"
tag_text Svg = codes "svg"
tag_text Text = codes "text"
tag_text Title = codes "title"

abbrev pub name_text : Name → List ℕ
name_text Class = codes "class"
name_text CenterX = codes "cx"
name_text CenterY = codes "cy"
name_text Data = codes "d"
name_text Fill = codes "fill"
name_text Height = codes "height"
name_text Namespace = codes "xmlns"
name_text PreserveAspectRatio = codes "preserveAspectRatio"
name_text Radius = codes "r"
name_text Stroke = codes "stroke"
name_text Transform = codes "transform"
name_text ViewBox = codes "viewBox"
name_text Width = codes "width"
name_text X = codes "x"
name_text Y = codes "y"

-- ---- elements

abbrev pub value_text : Value → List ℕ
value_text (Number n) = decimal n
value_text (Words words) = escape words.now

abbrev pub attribute_text : Attribute → List ℕ
attribute_text a = codes " " ++ name_text a.name ++ codes "=\"" ++ value_text a.value ++ codes "\""

abbrev pub attributes_text : List Attribute → List ℕ
attributes_text attributes = flat_map attribute_text attributes

-- a tag up to its end
abbrev pub start_text : Tag → List Attribute → List ℕ
start_text tag attributes = codes "<" ++ tag_text tag ++ attributes_text attributes

-- an element with nothing in it, and a line feed
abbrev pub empty_text : Tag → List Attribute → List ℕ
empty_text tag attributes = start_text tag attributes ++ codes "/>\n"

-- an element with something in it, and a line feed
abbrev pub element_text : Tag → List Attribute → List ℕ → List ℕ
element_text tag attributes inside = start_text tag attributes ++ codes ">" ++ inside ++ codes "</" ++ tag_text tag ++ codes ">\n"
