-- The effect of each plain built-in function covers the machine.
use Rattle.std.proofs.Common.{◌≡◌, List, Ok}
use Rattle.name_table.specs.declared.builtin.Builtin.{Builtin}
use Rattle.name_table.specs.declared.builtin.Builtin.TheVariants as op
use Rattle.sym_state.specs.declared.hint.Hint.{Hint}
use Rattle.sym_state.specs.Demands.{After}
use Rattle.sym_state.specs.Effects.{effect_of, rule_of}
use Rattle.sym_state.proofs.Ensured.{ensured}
use Rattle.sym_state.proofs.Spots.{Spot}
use Rattle.builtin_effects.proofs.AssignCovers.{assign_covers}
use Rattle.builtin_effects.proofs.CharactersCover.{chr_to_int_covers, int_to_chr_covers, int_to_str_covers}
use Rattle.builtin_effects.proofs.CountsCover.{num_names_covers, text_length_covers, width_covers}
use Rattle.builtin_effects.proofs.Covering.{CoversAt, CoversOf}
use Rattle.builtin_effects.proofs.EntryCovers.{cite_covers, preamble_covers, quote_covers, type_name_covers}
use Rattle.builtin_effects.proofs.FormatCovers.{format_name_covers}
use Rattle.builtin_effects.proofs.MovesCover.{duplicate_covers, newline_covers, pop_covers, skip_covers, stack_covers, swap_covers, top_covers, warning_covers, write_covers}
use Rattle.builtin_effects.proofs.StringsCover.{add_period_covers, change_case_covers, join_covers, purify_covers, text_prefix_covers}
use Rattle.builtin_effects.proofs.SubstringCovers.{substring_covers}
use Rattle.builtin_effects.proofs.SumsCover.{minus_covers, plus_covers}

covers_of : (s : Spot) (o : Builtin) → CoversOf s o
covers_of s op.Plus = plus_covers s
covers_of s op.Minus = minus_covers s
covers_of s op.Join = join_covers s
covers_of s op.Assign = assign_covers s
covers_of s op.AddPeriod = add_period_covers s
covers_of s op.ChangeCase = change_case_covers s
covers_of s op.ChrToInt = chr_to_int_covers s
covers_of s op.Cite = cite_covers s
covers_of s op.Duplicate = duplicate_covers s
covers_of s op.FormatName = format_name_covers s
covers_of s op.IntToChr = int_to_chr_covers s
covers_of s op.IntToStr = int_to_str_covers s
covers_of s op.Newline = newline_covers s
covers_of s op.NumNames = num_names_covers s
covers_of s op.Pop = pop_covers s
covers_of s op.Preamble = preamble_covers s
covers_of s op.Purify = purify_covers s
covers_of s op.Quote = quote_covers s
covers_of s op.Skip = skip_covers s
covers_of s op.Stack = stack_covers s
covers_of s op.Substring = substring_covers s
covers_of s op.Swap = swap_covers s
covers_of s op.TextLength = text_length_covers s
covers_of s op.TextPrefix = text_prefix_covers s
covers_of s op.Top = top_covers s
covers_of s op.TypeName = type_name_covers s
covers_of s op.Warning = warning_covers s
covers_of s op.Width = width_covers s
covers_of s op.Write = write_covers s
covers_of s _ = tt

pub effect_covers : (s : Spot) (o : Builtin) (hints : List Hint) (after : After) → effect_of s.style s.admits s.state o hints ≡ Ok after
    → CoversAt s o after.state
effect_covers s o hints after e =
    ensured s.admits s.state (CoversAt s o) (rule_of s.style s.admits s.state o) hints after (covers_of s o) e
