use Rattle.emtp_phasor.proofs.scanning.scan.Given as goal

abbrev pub ghosts-scan_from : goal.ghosts-scan_from
ghosts-scan_from a = record { name = a.blank.name; parts = a.blank.parts }
