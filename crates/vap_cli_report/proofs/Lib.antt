mod Clean
