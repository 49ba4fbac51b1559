-- The kind fragment (docs/ANALYSER.md, "The kind fragment"): styles for whose built-in functions kinds of values are enough.
use Rattle.std.specs.Prelude.{Bool, true, false, ◌||◌, not, Option, Some}
use Rattle.std.specs.List.{list_any}
use Rattle.name_table.specs.declared.builtin.Builtin.{Builtin}
use Rattle.name_table.specs.declared.builtin.Builtin.TheVariants as op
use Rattle.name_table.specs.declared.names.Kind.{Kind}
use Rattle.name_table.specs.declared.names.Kind.TheVariants.{Builtin as BuiltinKind}
use Rattle.name_table.specs.declared.style.Command.{Command}
use Rattle.name_table.specs.declared.style.Command.TheVariants.{Execute, Iterate, Reverse}
use Rattle.name_table.specs.declared.style.Style.{Style}
use Rattle.name_table.specs.declared.style.Token.{Token}
use Rattle.name_table.specs.declared.style.Token.TheVariants.{Call, Quote}
use Rattle.bst_meaning.specs.StyleParts.{kind_of}
use Rattle.infer.specs.declared.fragment.Sought.{Sought}
use Rattle.infer.specs.declared.fragment.Sought.TheVariants.{Beyond, While}

-- a built-in function of which no style of the fragment has one
abbrev pub is_beyond : Builtin → Bool
is_beyond op.Plus = true
is_beyond op.Minus = true
is_beyond op.ChangeCase = true
is_beyond op.ChrToInt = true
is_beyond op.FormatName = true
is_beyond op.IntToChr = true
is_beyond op.NumNames = true
is_beyond op.TextLength = true
is_beyond op.WhileDo = true
is_beyond op.Width = true
is_beyond _ = false

-- a built-in function of these
abbrev pub is_sought : Sought → Builtin → Bool
is_sought Beyond op = is_beyond op
is_sought While op.WhileDo = true
is_sought While _ = false

-- a name stands for one
abbrev pub stands_for : Sought → Option Kind → Bool
stands_for sought (Some (BuiltinKind op)) = is_sought sought op
stands_for sought _ = false

-- a token calls or quotes one
abbrev pub is_in_token : Sought → Style → Token → Bool
is_in_token sought style (Call name) = stands_for sought (kind_of style name)
is_in_token sought style (Quote name) = stands_for sought (kind_of style name)
is_in_token sought style _ = false

-- a command calls one
abbrev pub is_in_command : Sought → Style → Command → Bool
is_in_command sought style (Execute name) = stands_for sought (kind_of style name)
is_in_command sought style (Iterate name) = stands_for sought (kind_of style name)
is_in_command sought style (Reverse name) = stands_for sought (kind_of style name)
is_in_command sought style _ = false

-- one stands in a body of a style, entered or not, or in a command
abbrev pub is_in_style : Sought → Style → Bool
is_in_style sought style =
    list_any (λ body. list_any (λ at. is_in_token sought style at.token) body.tokens) style.bodies
    || list_any (λ at. is_in_command sought style at.command) style.commands

-- a style of the fragment has no function beyond it
abbrev pub is_of_fragment : Style → Bool
is_of_fragment style = not (is_in_style Beyond style)

-- `while$` stands in a style
abbrev pub has_while : Style → Bool
has_while style = is_in_style While style
