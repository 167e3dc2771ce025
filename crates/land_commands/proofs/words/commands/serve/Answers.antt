use Rattle.land_commands.proofs.words.commands.serve.Goals as goal

pub returns : goal.returns
returns c =
    let with_file = c.in_ok-with_file.ensures _ _ c.described_command-serve.ensures c.file_option.ensures in
    let with_port = c.in_ok-with_port.ensures _ _ with_file c.port_option.ensures in
    let with_connections = c.in_ok-with_connections.ensures _ _ with_port c.connections_option.ensures in
    c.with_option-4.ensures _ _ with_connections c.at_once_option.ensures
