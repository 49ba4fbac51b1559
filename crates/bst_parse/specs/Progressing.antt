-- How the parser's fields stand for what has been read.
use Rattle.bst_parse.specs.declared.parser.Parser.{Parser}
use Rattle.bst_parse.specs.Progress.{Progress}

-- what the fields hold
abbrev pub progress_of : Parser → Progress
progress_of parser =
    record {
      names = parser.names;
      commands = parser.commands;
      bodies = parser.bodies;
      texts = parser.texts.items;
      macros = parser.macros;
      has_entry = parser.has_entry;
      has_read = parser.has_read;
      parts = parser.parts.now;
      place = parser.place;
      function = parser.function;
      macro_name = parser.macro_name;
      opened = parser.opened;
    }
