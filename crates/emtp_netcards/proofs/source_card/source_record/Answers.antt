use Rattle.std.proofs.Common.{rules}
use Rattle.emtp_netcards.proofs.source_card.source_record.Goals as goal

pub returns-clause-numbers : goal.returns-clause-numbers
returns-clause-numbers c =
    let small = c.requires.course.small in
    record {
      numbers = record {
        amplitude = search rules;
        start = search rules;
        stop = search rules;
        shape = c.requires.course.numbers _ (search rules);
      };
      shape = c.requires.course.network;
    }
