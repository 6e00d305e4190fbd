-- What a reader of rows answers.
use Rattle.std.specs.Prelude.{◌≡◌, Result, Err}
use Rattle.emtp_batch.specs.Table.{FaultyItem}
use Rattle.emtp_batch.specs.declared.table.TimesFault.{TimesFault}
use Rattle.emtp_batch.specs.declared.table.TimesFault.TheVariants.{Bad, NoMemory}

-- the fault is that of the definition; want of memory has none
abbrev pub IsRefused : {A : Type 0} → TimesFault → Result A FaultyItem → Type 0
IsRefused (Bad line item) read = read ≡ Err (record { line = line; item = item })
IsRefused NoMemory read = Unit {0}
