-- What a style has at a number (docs/LANGUAGE.md, "What is read"). Each number that a style names is in range; elsewhere
-- the empty list stands.
use Rattle.std.specs.Prelude.{ℕ, List, [], ◌∷◌, Option, slice_get}
use Rattle.std.specs.Option.{option_map_or}
use Rattle.bv_base.specs.declared.place.Place.{Place}
use Rattle.name_table.specs.declared.names.NameId.{NameId}
use Rattle.name_table.specs.declared.names.Kind.{Kind}
use Rattle.name_table.specs.declared.style.BodyId.{BodyId}
use Rattle.name_table.specs.declared.style.TextId.{TextId}
use Rattle.name_table.specs.declared.style.Token.TheVariants.{Call}
use Rattle.name_table.specs.declared.style.TokenAt.{TokenAt}
use Rattle.name_table.specs.declared.style.Style.{Style}
use Rattle.name_table.specs.Names.{kind_at}
use Rattle.bst_meaning.specs.declared.value.Target.{Target}
use Rattle.bst_meaning.specs.declared.value.Target.TheVariants.{Named, Block}

-- what a name stands for
abbrev pub kind_of : Style → NameId → Option Kind
kind_of style name = kind_at name style.names

-- the tokens of a body
abbrev pub tokens_of : Style → BodyId → List TokenAt
tokens_of style body = option_map_or (λ b. b.tokens) (slice_get style.bodies body.0) []

-- the bytes of a text
abbrev pub text_of : Style → TextId → List ℕ
text_of style text = option_map_or (λ bytes. bytes) (slice_get style.texts text.0) []

-- what is executed where a target is entered at a place: for a name the single token that calls it, for a block its tokens
abbrev pub entered_tokens : Style → Target → Place → List TokenAt
entered_tokens style (Named name) place = record { token = Call name; place = place } ∷ []
entered_tokens style (Block body) place = tokens_of style body
