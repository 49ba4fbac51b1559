-- How the reader's fields stand for what has been read.
use Rattle.bib_read.specs.declared.reader.Reader.{Reader}
use Rattle.bib_read.specs.Progress.{Progress}

-- the bytes that are left and what has been read, as the fields of the reader have it
abbrev pub progress_of : Reader → Progress
progress_of reader =
    record {
      left = reader.rest.now;
      macros = reader.macros;
      entries = reader.entries;
      preamble = reader.preamble.items;
      warnings = reader.warnings;
      text = reader.text.items;
      fields = reader.fields;
    }
