use Rattle.umem_cli.proofs.message.write_message.Goals as goal

pub returns-in-CoreTooLong-clause-taken : goal.returns-in-CoreTooLong-clause-taken
returns-in-CoreTooLong-clause-taken g c = rw (c.in-CoreTooLong.is, ← c.as_slice-name.ensures) c.write_about.ensures.taken

pub returns-in-NoFile-clause-taken : goal.returns-in-NoFile-clause-taken
returns-in-NoFile-clause-taken g c = rw (c.in-NoFile.is, ← c.as_slice-name.ensures) c.write_about-in-NoFile.ensures.taken

pub returns-in-ReadFault-clause-taken : goal.returns-in-ReadFault-clause-taken
returns-in-ReadFault-clause-taken g c = rw (c.in-ReadFault.is, ← c.as_slice-name.ensures) c.write_about-in-ReadFault.ensures.taken

pub returns-in-CommandsFault-clause-taken : goal.returns-in-CommandsFault-clause-taken
returns-in-CommandsFault-clause-taken g c = rw c.in-CommandsFault.is c.write_about-in-CommandsFault.ensures.taken

pub returns-in-CommandsTooLong-clause-taken : goal.returns-in-CommandsTooLong-clause-taken
returns-in-CommandsTooLong-clause-taken g c = rw c.in-CommandsTooLong.is c.write_about-in-CommandsTooLong.ensures.taken
