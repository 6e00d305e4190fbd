use Rattle.std.proofs.Common.{◌≡◌, take, length, Some, true, Ok}
use Rattle.emtp_run.specs.Inputs.{contents}
use Rattle.emtp_run.specs.held.Inputs.{ReadsInputs, named_inputs, texts_of}
use Rattle.emtp_run.proofs.reading.read_inputs.Given as goal

-- the first files were read, and these are their texts
abbrev pub invariant-loop-input : goal.invariant-loop-input
invariant-loop-input g l =
    let old = g.C.Cabinet.state l.initial.cabinet in
    let now = g.C.Cabinet.state l.cabinet in
    record {
      reading : ReadsInputs {A = Unit {0}} (named_inputs (take l.input-index l.inputs)) old now (Ok tt);
      count : length l.texts.items ≡ l.input-index;
      texts : old.nature.tells ≡ true → contents old.nature.files (named_inputs (take l.input-index l.inputs)) ≡ Some (texts_of l.texts.items);
    }
