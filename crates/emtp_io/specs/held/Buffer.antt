-- An output in memory.
use Rattle.std.specs.Prelude.{ℕ, ◌-◌, length, Option, Some, None, string_bytes, if◌then◌else◌}
use Rattle.emtp_io.specs.Cabinet.{CreatedOutput}
use Rattle.emtp_io.specs.declared.buffer.OutputBuffer.{OutputBuffer}

-- the output, where it was created
abbrev pub created_of : OutputBuffer → Option CreatedOutput
created_of b =
    if b.created then Some (record { name = string_bytes b.name; bytes = b.bytes.items }) else None

-- how many more bytes have room in an output
abbrev pub spare_of : Option CreatedOutput → ℕ → Option ℕ
spare_of None room = None
spare_of (Some e) room = Some (room - length e.bytes)
