use Rattle.command_line.proofs.clap_commands.new_command.Goals as goal

pub returns : goal.returns
returns c = (rw (c.after_help.ensures, c.about.ensures) c.new.ensures.app, rw (c.after_help.ensures, c.about.ensures) c.new.ensures.local)
