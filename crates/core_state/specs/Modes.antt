-- The modes with one changed.
use Rattle.std.specs.Prelude.{Bool}
use Rattle.core_state.specs.declared.Modes.{Modes}

abbrev pub with_insert : Modes → Bool → Modes
with_insert m on = record {
  insert = on;
  newline = m.newline;
  origin = m.origin;
  autowrap = m.autowrap;
  shown = m.shown;
  eightbit = m.eightbit;
  rectangle = m.rectangle;
}

abbrev pub with_newline : Modes → Bool → Modes
with_newline m on = record {
  insert = m.insert;
  newline = on;
  origin = m.origin;
  autowrap = m.autowrap;
  shown = m.shown;
  eightbit = m.eightbit;
  rectangle = m.rectangle;
}

abbrev pub with_origin : Modes → Bool → Modes
with_origin m on = record {
  insert = m.insert;
  newline = m.newline;
  origin = on;
  autowrap = m.autowrap;
  shown = m.shown;
  eightbit = m.eightbit;
  rectangle = m.rectangle;
}

abbrev pub with_autowrap : Modes → Bool → Modes
with_autowrap m on = record {
  insert = m.insert;
  newline = m.newline;
  origin = m.origin;
  autowrap = on;
  shown = m.shown;
  eightbit = m.eightbit;
  rectangle = m.rectangle;
}

abbrev pub with_shown : Modes → Bool → Modes
with_shown m on = record {
  insert = m.insert;
  newline = m.newline;
  origin = m.origin;
  autowrap = m.autowrap;
  shown = on;
  eightbit = m.eightbit;
  rectangle = m.rectangle;
}

abbrev pub with_eightbit : Modes → Bool → Modes
with_eightbit m on = record {
  insert = m.insert;
  newline = m.newline;
  origin = m.origin;
  autowrap = m.autowrap;
  shown = m.shown;
  eightbit = on;
  rectangle = m.rectangle;
}

abbrev pub with_rectangle : Modes → Bool → Modes
with_rectangle m on = record {
  insert = m.insert;
  newline = m.newline;
  origin = m.origin;
  autowrap = m.autowrap;
  shown = m.shown;
  eightbit = m.eightbit;
  rectangle = on;
}
