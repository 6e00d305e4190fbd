use Rattle.std.proofs.Common.{refl, rules}
use Rattle.emtp_taccards.proofs.tacs_source_card.source_record.Goals as goal

pub returns-clause-numbers : goal.returns-clause-numbers
returns-clause-numbers c =
    let small = c.requires.small in
    let start = c.requires.start in
    let stop = c.requires.stop in
    record {
      no_current = refl;
      numbers = record {
        amplitude = search rules;
        start = search rules;
        stop = search rules;
        shape = c.requires.numbers _ (search rules) (search rules) (search rules);
      };
      shape = c.requires.shape;
    }
